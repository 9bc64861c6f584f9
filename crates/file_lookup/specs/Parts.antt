-- What the lookup hands back: a part where a record lies, or a refusal.
use Rattle.std.specs.Prelude.{ℕ, ◌≡◌, true, List, Result, Ok, Err}
use Rattle.std.specs.Borrow.{Bor}
use Rattle.layout.specs.declared.refusal.Refusal.{Refusal}
use Rattle.layout.specs.declared.refusal.Refusal.TheVariants.{NotLive}
use Rattle.layout.specs.Refusals.{refusal_number}
use Rattle.ducklake.specs.Refusals.{accepted}
use Rattle.ducklake.specs.Lookup.{FilePlace, nowhere, is_somewhere, LiesAt, Lookup, LookupPromise}

-- a part that lies at the place, or 6 where that is nowhere
abbrev pub FoundAt : Bor (List ℕ) → Bor (List ℕ) → Result (Bor (List ℕ)) Refusal → FilePlace → Type 0
FoundAt data_files delete_files (Ok part) p = LiesAt data_files delete_files part p × (is_somewhere p ≡ true)
FoundAt data_files delete_files (Err refusal) p = (refusal ≡ NotLive) × (p ≡ nowhere)

-- the promise of the lookup: of the part, or of a refusal's number, with which there is no part
abbrev pub PromisedPart : Lookup → Bor (List ℕ) → Bor (List ℕ) → Result (Bor (List ℕ)) Refusal → Type 0
PromisedPart result data_files delete_files (Ok part) = LookupPromise result data_files delete_files part accepted
PromisedPart result data_files delete_files (Err refusal) = (refusal_number refusal ≡ result.number) × (result.part ≡ nowhere)
