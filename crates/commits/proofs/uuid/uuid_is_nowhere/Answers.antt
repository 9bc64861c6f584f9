-- `uuid_is_nowhere` meets its contract: the loop goes on while no record has the two words.
use Prim.Native.Nat.{ℕ, ◌+◌}
use mathlib.Core.Path.{◌≡◌, refl, sym, ◌∙◌}
use mathlib.Core.Bool.{Bool, not, ◌&&◌}
use mathlib.Core.List.{List}
use native.Mathlib.Omega.{arith}
use lib.Dec.{eqb}
use Rattle.lists.specs.Runs.{field, pair_at}
use Rattle.lists.proofs.Loops.{all_start, all_pass, all_fail, all_end}
use Rattle.lists.proofs.Runs.{record_fits}
use Rattle.layout.specs.declared.record.Uuid.{Uuid}
use Rattle.commits.proofs.Uuids.{differ}
use Rattle.commits.proofs.uuid.uuid_is_nowhere.Goals as goal

-- two words that were read, compared with those of the UUID
compared : (uuid : Uuid) (size word : ℕ) (run : List ℕ) (i : ℕ) {h l : ℕ} {b : Bool} → h ≡ field size word run i → l ≡ field size (word + 1) run i
    → (eqb uuid.high h && eqb uuid.low l) ≡ b → differ uuid (pair_at size word (word + 1) run i) ≡ not b
compared uuid size word run i e f g = rw (← e, ← f, g) refl

pub loop-i-init : goal.loop-i-init
loop-i-init c = all_start _ _ _

pub field_at-high-requires : goal.field_at-high-requires
field_at-high-requires c = let p = c.requires in (record_fits _ c.loop-i-test.true p.0, omega (arith, p.1))

pub field_at-low-requires : goal.field_at-low-requires
field_at-low-requires c = let p = c.requires in (record_fits _ c.loop-i-test.true p.0, p.1)

pub returns-then-eq : goal.returns-then-eq
returns-then-eq c =
    sym (c.loop-i.invariant ∙ all_fail _ _ _ _ c.loop-i-test.true (compared _ _ _ _ _ c.field_at-high.ensures c.field_at-low.ensures (sym c.eq.ensures ∙ c.if-eq.true)))

pub loop-i-preserved : goal.loop-i-preserved
loop-i-preserved c =
    c.loop-i.invariant ∙ all_pass _ _ _ _ c.loop-i-test.true (compared _ _ _ _ _ c.field_at-high.ensures c.field_at-low.ensures (sym c.eq.ensures ∙ c.if-eq.false))

pub returns : goal.returns
returns c = sym (c.loop-i.invariant ∙ all_end _ _ _ _ c.loop-i-test.false)
