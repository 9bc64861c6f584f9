-- The words that a `Fields` stands for.
use Rattle.std.specs.Prelude.{ℕ, List}
use Rattle.lists.specs.Runs.{fields}
use Rattle.runs.specs.declared.fields.Fields.{Fields}

-- the word at one place of each of its records
abbrev pub values : Fields → List ℕ
values f = fields f.size f.at f.words.now f.n
