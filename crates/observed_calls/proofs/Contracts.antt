-- What follows of a function's contract: where its `ensures` shows a fact, the function meets the contract that ensures that fact. Each public call's own statement
-- goes in by name, so that a weaker `ensures` shows the fact no longer.
use Prim.Native.Nat.{ℕ}
use mathlib.Core.Path.{◌≡◌}
use mathlib.Core.List.{List}
use seplogic.Ra.Ura.{Ura}
use base.Logic.{SProp, ent}
use prog.Memory.{Memory}
use prog.Model.{Model}
use prog.Routine.{Routine}
use prog.Wired.{Wired, Code}
use mir.Syntax.{Callee}
use types.Logic.{Logic}
use contract.Lifetimes.{Lfts}
use contract.Monad.{fact, Fun}
use contract.Running.{Running}
use denote.Ask.Run.{routine_mono}
use denote.Triple.Clauses.{Clauses, Ended, AtExit, at_exit, closing}
use denote.Triple.Entry.{Args, Res}
use denote.Triple.Spec.{Meets}
use denote.Triple.Weaken.{weaken}
use Rattle.layout.specs.declared.outcome.Counts.{Counts}
use Rattle.layout.specs.declared.outcome.Outcome.{Outcome}
use Rattle.layout.specs.Words.{Words}
use Rattle.ducklake.specs.Calls.{Promise}
use Rattle.ducklake.specs.Observed.{Request, perform_request}
use Rattle.observed_calls.specs.Seen.{Enters}

-- a fact of a function's arguments, its result and what it leaves
abbrev pub Fact : Ended → Type 1
Fact T = (κs : Lfts T.signature.lifetimes) → Args T.signature κs → Res T.signature κs → AtExit T κs → Type 0

-- a function's clauses, as the toolchain makes them of its contract
abbrev pub Written : Type 1 → Ended → Type 2
Written M T = (𝓤 : Ura M) (𝓛 : Logic 𝓤) → (Memory → SProp 𝓤) → (Routine → Fun 𝓤) → Clauses 𝓤 T

-- the code of a function, with all that it calls, and the function's name in it
module _ {M : Type 1} (T : Ended) (c : Written M T) (code : Code) (name : Callee) where
  -- wherever names mean this code, the routine of that name meets clauses
  abbrev Meeting : ((𝓤 : Ura M) → Clauses 𝓤 T → Clauses 𝓤 T) → Type 2
  Meeting put =
      (𝓤 : Ura M) (𝓛 : Logic 𝓤) (𝓜 : Model 𝓤 𝓛.H) (𝓡 : Running 𝓤 𝓛.H 𝓜) → Wired 𝓡.env code
      → Meets 𝓛 T.signature (𝓡.run (𝓡.env name)) (closing 𝓛 T (put 𝓤 (c 𝓤 𝓛 𝓜.mem 𝓡.returns)))

  -- its own, which is the function's statement; and its own with a fact for the `ensures`
  abbrev Stated : Type 2
  Stated = Meeting (λ 𝓤 d. d)

  abbrev pub Ensuring : Fact T → Type 2
  Ensuring F = Meeting (λ 𝓤 d κs a. record { ghost = (d κs a).ghost; requires = (d κs a).requires; ensures = λ g r s. fact 𝓤 (F κs a r s) })

  pub follows : (F : Fact T)
      → ((𝓤 : Ura M) (𝓛 : Logic 𝓤) (mem : Memory → SProp 𝓤) (run : Routine → Fun 𝓤) (κs : Lfts T.signature.lifetimes) (a : Args T.signature κs)
      (g : (c 𝓤 𝓛 mem run κs a).ghost) (r : Res T.signature κs) (s : AtExit T κs) → ent 𝓤 ((c 𝓤 𝓛 mem run κs a).ensures g r s) (fact 𝓤 (F κs a r s)))
      → Stated → Ensuring F
  follows F h met 𝓤 𝓛 𝓜 𝓡 wired =
      weaken 𝓛 T (c 𝓤 𝓛 𝓜.mem 𝓡.returns) (λ κs a g r s. fact 𝓤 (F κs a r s))
      (λ κs a g r ws. h 𝓤 𝓛 𝓜.mem 𝓡.returns κs a g r (at_exit T κs a ws)) (𝓡.run (𝓡.env name)) (routine_mono 𝓤 𝓛.H 𝓜 𝓡 (𝓡.env name)) (met 𝓤 𝓛 𝓜 𝓡 wired)

-- a promise kept goes into any history
pub enters : {q : Request} {w : Words} {c : Counts} {area : List ℕ} {o : Outcome} {w' : Words} {area_left : List ℕ} → Promise (perform_request q w c area) o w' area_left
    → Enters q w c area o w' area_left
enters {q} {area} {o} {w'} {area_left} p = record { kept = λ S e f xs k. (rw (e, f) p, k) }
