-- The numbers of refusals, and the outcomes of refused and of accepted calls.
use Rattle.std.specs.Prelude.{ℕ, Result, Ok, Err}
use Rattle.layout.specs.declared.outcome.Counts.{Counts}
use Rattle.layout.specs.declared.outcome.Outcome.{Outcome}
use Rattle.layout.specs.declared.refusal.Refusal.{Refusal}
use Rattle.layout.specs.declared.refusal.Refusal.TheVariants.{NotSound, NoRoom, ShortAnswerArea, NumberTooLarge, NotRetained, NotLive, NoSnapshotByThen, TimeFalls, BadName, NameTaken, SchemaNotEmpty, BadColumns, BadRecordCount, UuidTaken, BadStatistics, BadPositions, AlreadyDeleted, BadExpiryList, ExpiresLatest}

-- the number of each refusal, in document 01's list
abbrev pub refusal_number : Refusal → ℕ
refusal_number NotSound = 1
refusal_number NoRoom = 2
refusal_number ShortAnswerArea = 3
refusal_number NumberTooLarge = 4
refusal_number NotRetained = 5
refusal_number NotLive = 6
refusal_number NoSnapshotByThen = 7
refusal_number TimeFalls = 8
refusal_number BadName = 9
refusal_number NameTaken = 10
refusal_number SchemaNotEmpty = 11
refusal_number BadColumns = 12
refusal_number BadRecordCount = 13
refusal_number UuidTaken = 14
refusal_number BadStatistics = 15
refusal_number BadPositions = 16
refusal_number AlreadyDeleted = 17
refusal_number BadExpiryList = 18
refusal_number ExpiresLatest = 19

-- "An accepted call gives number 0"; a refused one its refusal's number
abbrev pub number_of : {A : Type 0} → Result A Refusal → ℕ
number_of (Ok a) = 0
number_of (Err refusal) = refusal_number refusal

-- what an outcome is but for its number: place 0, a length, the counts
abbrev pub refused_with : ℕ → Counts → Outcome
refused_with number counts = record { number = number; place = 0; length = 0; counts = counts }

abbrev pub accepted_with : ℕ → Counts → Outcome
accepted_with length counts = record { number = 0; place = 0; length = length; counts = counts }

-- the length of an answer; 0 of one that is refused
abbrev pub length_of : Result ℕ Refusal → ℕ
length_of (Ok length) = length
length_of (Err refusal) = 0

abbrev pub answered_with : Result ℕ Refusal → Counts → Outcome
answered_with answer counts = record { number = number_of answer; place = 0; length = length_of answer; counts = counts }
