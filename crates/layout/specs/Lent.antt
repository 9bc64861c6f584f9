-- The lent runs as a contract sees them: each parameter at entry and at exit. A run that is only read is lent as a `&`, one that may be written as a `&mut`.
use Rattle.std.specs.Prelude.{List, ℕ}
use Rattle.std.specs.Borrow.{Bor, MutBor}
use denote.Triple.Both.{Both}
use Rattle.layout.specs.declared.tables.Tables.{Tables}
use Rattle.layout.specs.Words.{Words, lent_by}

-- a lent run, and a parameter that is one: what it is at entry and at exit
abbrev pub Run : Type 0
Run = Bor (List ℕ)

abbrev pub MutRun : Type 0
MutRun = MutBor (List ℕ)

abbrev pub ReadRun : Type 0
ReadRun = Both Run Run

abbrev pub LentRun : Type 0
LentRun = Both MutRun MutRun

-- the runs of one moment, in the order of the parameters
abbrev pub lent_now : Run → Run → Run → Run → Run → Run → Run → Run → Run → Run → Run → Run → Words
lent_now = lent_by (λ x. x.now)

abbrev pub mut_lent_now : MutRun → MutRun → MutRun → MutRun → MutRun → MutRun → MutRun → MutRun → MutRun → MutRun → MutRun → MutRun → Words
mut_lent_now = lent_by (λ x. x.now)

-- what a call is lent
abbrev pub at_entry : LentRun → LentRun → LentRun → LentRun → LentRun → LentRun → LentRun → LentRun → LentRun → LentRun → LentRun → LentRun → Words
at_entry = lent_by (λ run. run.entry.now)

abbrev pub read_at_entry : ReadRun → ReadRun → ReadRun → ReadRun → ReadRun → ReadRun → ReadRun → ReadRun → ReadRun → ReadRun → ReadRun → ReadRun → Words
read_at_entry = lent_by (λ run. run.entry.now)

-- what it leaves
abbrev pub at_exit : LentRun → LentRun → LentRun → LentRun → LentRun → LentRun → LentRun → LentRun → LentRun → LentRun → LentRun → LentRun → Words
at_exit = lent_by (λ run. run.exit.now)

abbrev pub read_at_exit : ReadRun → ReadRun → ReadRun → ReadRun → ReadRun → ReadRun → ReadRun → ReadRun → ReadRun → ReadRun → ReadRun → ReadRun → Words
read_at_exit = lent_by (λ run. run.exit.now)

-- what a struct of the twelve runs lends
abbrev pub words_lent : Tables → Words
words_lent t = lent_by (λ x. x.now) t.snapshots t.schemas t.schema_names t.tables t.table_names t.columns t.column_names t.data_files t.delete_files t.positions t.statistics t.scheduled
