-- Every case of the lists is true: their calls, played on lent runs, give and leave what the lines say, by computation.
use mathlib.Core.Path.{◌≡◌, refl}
use mathlib.Core.List.{[], ◌∷◌, map}
use Rattle.layout.specs.declared.refusal.Refusal.TheVariants.{NotSound, NoRoom, ShortAnswerArea, NumberTooLarge, NotRetained, NotLive, NoSnapshotByThen, TimeFalls, BadName, NameTaken, SchemaNotEmpty, BadColumns, BadRecordCount, UuidTaken, BadStatistics, BadPositions, AlreadyDeleted, BadExpiryList, ExpiresLatest}
use Rattle.layout.specs.Refusals.{refusal_number}
use Rattle.ducklake.specs.Refusals.{accepted, not_sound, no_room, short_answer_area, number_too_large, not_retained, not_live, no_snapshot_by_then, time_falls, bad_name, name_taken, schema_not_empty, bad_columns, bad_record_count, uuid_taken, bad_statistics, bad_positions, already_deleted, bad_expiry_list, expires_latest}
use Rattle.ducklake.specs.Kinds.{created_schema, created_table, inserted_into_table, deleted_from_table, dropped_schema, dropped_table}
use Rattle.ducklake.proofs.cases.Sessions.{passes}
use Rattle.ducklake.proofs.cases.Lines.{State, start, after, wrong}
use Rattle.ducklake.proofs.cases.Base.{base}
use Rattle.ducklake.proofs.cases.Refusals.{refusals}
use Rattle.ducklake.proofs.cases.Limits.{limits}
use Rattle.ducklake.proofs.cases.TypeRanges.{type_ranges}
use Rattle.ducklake.proofs.cases.Unmarked.{unmarked}
use Rattle.ducklake.proofs.cases.Growth.{growth}
use Rattle.ducklake.proofs.cases.Drops.{drops}
use Rattle.ducklake.proofs.cases.Maintenance.{maintenance}
use Rattle.ducklake.proofs.cases.Sound.{soundness}
use Rattle.ducklake.proofs.cases.SoundFields.{sound_fields}

-- The cases name refusals and kinds; these are the numbers that document 01 gives them.
refusal_numbers : (accepted ∷ not_sound ∷ no_room ∷ short_answer_area ∷ number_too_large ∷ not_retained ∷ not_live ∷ no_snapshot_by_then ∷ time_falls ∷ bad_name
    ∷ name_taken ∷ schema_not_empty ∷ bad_columns ∷ bad_record_count ∷ uuid_taken ∷ bad_statistics ∷ bad_positions ∷ already_deleted ∷ bad_expiry_list ∷ expires_latest ∷ [])
    ≡ (0 ∷ 1 ∷ 2 ∷ 3 ∷ 4 ∷ 5 ∷ 6 ∷ 7 ∷ 8 ∷ 9 ∷ 10 ∷ 11 ∷ 12 ∷ 13 ∷ 14 ∷ 15 ∷ 16 ∷ 17 ∷ 18 ∷ 19 ∷ [])
refusal_numbers = refl

-- code's refusals have the same numbers, one by one
code_numbers : map refusal_number (NotSound ∷ NoRoom ∷ ShortAnswerArea ∷ NumberTooLarge ∷ NotRetained ∷ NotLive ∷ NoSnapshotByThen ∷ TimeFalls ∷ BadName
    ∷ NameTaken ∷ SchemaNotEmpty ∷ BadColumns ∷ BadRecordCount ∷ UuidTaken ∷ BadStatistics ∷ BadPositions ∷ AlreadyDeleted ∷ BadExpiryList ∷ ExpiresLatest ∷ [])
    ≡ (not_sound ∷ no_room ∷ short_answer_area ∷ number_too_large ∷ not_retained ∷ not_live ∷ no_snapshot_by_then ∷ time_falls ∷ bad_name
    ∷ name_taken ∷ schema_not_empty ∷ bad_columns ∷ bad_record_count ∷ uuid_taken ∷ bad_statistics ∷ bad_positions ∷ already_deleted ∷ bad_expiry_list ∷ expires_latest ∷ [])
code_numbers = refl

kind_numbers : (created_schema ∷ created_table ∷ inserted_into_table ∷ deleted_from_table ∷ dropped_schema ∷ dropped_table ∷ [])
    ≡ (1 ∷ 2 ∷ 3 ∷ 4 ∷ 6 ∷ 7 ∷ [])
kind_numbers = refl

based : State
based = after start base

grown : State
grown = after based growth

dropped : State
dropped = after grown drops

base_cases : wrong start base ≡ []
unfolding base wrong after passes
base_cases = refl

refusal_cases : wrong based refusals ≡ []
unfolding base based refusals wrong after passes
refusal_cases = refl

limit_cases : wrong based limits ≡ []
unfolding base based limits wrong after passes
limit_cases = refl

type_range_cases : wrong start type_ranges ≡ []
unfolding type_ranges wrong after passes
type_range_cases = refl

growth_cases : wrong based growth ≡ []
unfolding base based growth wrong after passes
growth_cases = refl

drop_cases : wrong grown drops ≡ []
unfolding base based growth grown drops wrong after passes
drop_cases = refl

maintenance_cases : wrong dropped maintenance ≡ []
unfolding base based growth grown drops dropped maintenance wrong after passes
maintenance_cases = refl

soundness_cases : wrong grown soundness ≡ []
unfolding base based growth grown soundness wrong after passes
soundness_cases = refl

unmarked_cases : wrong start unmarked ≡ []
unfolding unmarked wrong after passes
unmarked_cases = refl

soundness_of_fields_cases : wrong based sound_fields ≡ []
unfolding base based sound_fields wrong after passes
soundness_of_fields_cases = refl
