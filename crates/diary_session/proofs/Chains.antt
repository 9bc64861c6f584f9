-- A call that was made on what the one before left keeps its promise on what that one should leave: the two are the same by its promise.
use Prim.Native.Nat.{ℕ}
use mathlib.Core.List.{List}
use Rattle.layout.specs.declared.outcome.Counts.{Counts}
use Rattle.layout.specs.declared.outcome.Outcome.{Outcome}
use Rattle.layout.specs.Words.{Words}
use Rattle.ducklake.specs.Calls.{Result, Promise}

pub promise_on : {R : Result} {r r' : Outcome} {w w' : Words} {a a' : List ℕ} (call : Words → Counts → List ℕ → Result)
    → Promise R r w a → Promise (call w r.counts a) r' w' a' → Promise (call R.words R.counts R.area) r' w' a'
promise_on call p q = rw (p.words, p.counts, p.area) at q
