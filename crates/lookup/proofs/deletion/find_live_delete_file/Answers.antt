-- `find_live_delete_file` meets its contract: the loop tests each delete file as the definition does.
use Prim.Native.Nat.{ℕ}
use mathlib.Core.Path.{◌≡◌, refl, sym, ap, ◌∙◌}
use mathlib.Core.Bool.{Bool, ◌&&◌}
use mathlib.Core.List.{List}
use lib.Dec.{eqb}
use Rattle.lists.specs.Runs.{field, at}
use Rattle.lists.proofs.Loops.{place_hit, place_miss, place_end}
use Rattle.layout.specs.Fields.{delete_file_size, delete_file_begin_word}
use Rattle.layout.specs.Records.{delete_file_layout}
use Rattle.layout.specs.Words.{delete_file_at}
use Rattle.ducklake.specs.Liveness.{live}
use Rattle.lookup.specs.Versions.{life_at, with_life}
use Rattle.lookup.specs.declared.life.Life.{Life}
use Rattle.lookup.proofs.deletion.find_live_delete_file.Invariants.{test}
use Rattle.lookup.proofs.deletion.find_live_delete_file.Goals as goal

test_is : (run positions : List ℕ) (i file s : ℕ) {x : ℕ} {l : Life} {a b : Bool} → a ≡ eqb x file → x ≡ (at delete_file_layout run i).data_file.0 → l ≡ life_at delete_file_size delete_file_begin_word run i → b ≡ live s (with_life l)
    → test file s (delete_file_at run positions i) ≡ (a && b)
unfolding field live
test_is run positions i file s d e f g = rw (d, e, g, f) refl

pub returns-then-eq-live : goal.returns-then-eq-live
returns-then-eq-live c positions =
    sym (c.loop-i.invariant positions ∙ place_hit _ _ _ _ c.loop-i-test.true (test_is _ _ _ _ _ c.eq.ensures (ap (λ f. f.0) c.delete_file_data_file-file.ensures) c.life_at-l.ensures c.is_live-live.ensures ∙ c.if-eq-live.true))

pub loop-i-preserved : goal.loop-i-preserved
loop-i-preserved c =
    λ positions. c.loop-i.invariant positions ∙ place_miss _ _ _ _ c.loop-i-test.true (test_is _ _ _ _ _ c.eq.ensures (ap (λ f. f.0) c.delete_file_data_file-file.ensures) c.life_at-l.ensures c.is_live-live.ensures ∙ c.if-eq-live.false)

pub returns : goal.returns
returns c positions = sym (c.loop-i.invariant positions ∙ place_end _ _ _ _ c.loop-i-test.false)
