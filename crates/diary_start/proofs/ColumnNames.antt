-- The names of the columns: each is written into its place, and the two places are the whole run.
use Prim.Native.Nat.{ℕ, ◌*◌}
use mathlib.Core.Path.{◌≡◌, refl, ◌∙◌}
use mathlib.Core.List.{List, [], ◌∷◌, ◌++◌}
use lib.ListN.{replicate}
use Rattle.lists.specs.Runs.{overwrite}
use Rattle.layout.specs.declared.outcome.Counts.{Counts}
use Rattle.layout.specs.declared.outcome.Outcome.{Outcome}
use Rattle.layout.specs.Names.{name_size, padded}
use Rattle.layout.specs.Words.{Words}
use Rattle.ducklake.specs.Commits.{create_table}
use Rattle.ducklake.specs.Calls.{commit_at, at_time, perform, Promise}
use Rattle.diary_session.specs.Session.{diary_name, item_name, price_name, int64, without_nulls, with_nulls, create_diary}

names_placed : {x y : List ℕ} → x ≡ overwrite (replicate (2 * name_size) 0) 0 (padded item_name) → y ≡ overwrite x name_size (padded price_name)
    → y ≡ padded item_name ++ padded price_name
unfolding overwrite padded
names_placed e f = f ∙ rw e refl

pub promise_named : {x y area' : List ℕ} {w' : Words} {o : Outcome} (w : Words) (c : Counts) (area : List ℕ)
    → x ≡ overwrite (replicate (2 * name_size) 0) 0 (padded item_name) → y ≡ overwrite x name_size (padded price_name)
    → Promise (perform (commit_at (at_time 110) (create_table 0 diary_name (int64 ∷ without_nulls ∷ int64 ∷ with_nulls ∷ []) y)) w c area) o w' area'
    → Promise (perform create_diary w c area) o w' area'
promise_named w c area e f p = rw (names_placed e f) at p
