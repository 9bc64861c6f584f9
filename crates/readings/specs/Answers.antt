-- What a reading leaves that is not refused before its answer's length is known: "3 the answer area is shorter than the answer.", or "The answer's length in
-- words is returned" and the answer stands at the front of the answer area.
use Rattle.std.specs.Prelude.{ℕ, ◌≡◌, cond, List, leb, length, Result}
use Rattle.lists.specs.Runs.{overwrite}
use Rattle.layout.specs.declared.refusal.Refusal.{Refusal}
use Rattle.layout.specs.Refusals.{number_of, length_of}
use Rattle.ducklake.specs.Refusals.{accepted, short_answer_area, refuse_unless}

pub record Answered (answer area : List ℕ) (r : Result ℕ Refusal) (area' : List ℕ) : Type 0 where
  pub number : number_of r ≡ refuse_unless short_answer_area (leb (length answer) (length area)) accepted
  pub count : length_of r ≡ cond (leb (length answer) (length area)) (length answer) 0
  pub left : area' ≡ cond (leb (length answer) (length area)) (overwrite area 0 answer) area
