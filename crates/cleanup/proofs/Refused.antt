-- The number of a cleanup: its answer has three words for each record that is due, and records that go have room.
use Prim.Native.Nat.{ℕ, ◌*◌, ◌≤◌, ◌<◌}
use mathlib.Core.Path.{◌≡◌, refl, ap, ◌∙◌}
use mathlib.Core.Bool.{true}
use mathlib.Core.List.{List}
use native.Mathlib.Omega.{arith}
use lib.ListN.{length, length-map}
use Rattle.lists.specs.Lists.{range}
use Rattle.lists.proofs.Counts.{count_most, filter_length}
use Rattle.lists.proofs.Loops.{length-range}
use Rattle.layout.specs.declared.outcome.Counts.{Counts}
use Rattle.layout.specs.Words.{Words, load, scheduled_at, scheduled_in}
use Rattle.ducklake.specs.Soundness.{sound}
use Rattle.ducklake.specs.Refusals.{accepted, short_answer_area}
use Rattle.ducklake.specs.Maintenance.{due, handed_size, handed_out}
use Rattle.ducklake.specs.Calls.{clean_up, effect, answer, refusal}
use Rattle.call_laws.proofs.Cleanup.{handed_length, cleanup_room}
use Rattle.call_laws.proofs.Refusals.{sound_fits, refusal_short, refusal_none}
use Rattle.cleanup.specs.Handed.{due_in}

pub due_most : (run : List ℕ) (n t : ℕ) → length (due_in run n t) ≤ n
due_most run n t = omega (arith, filter_length (due t) (scheduled_in run n), count_most (due t) (scheduled_in run n), length-map (range 0 n) (scheduled_at run), length-range 0 n)

module _ (w : Words) (c : Counts) (m t : ℕ) {run : List ℕ} {k : ℕ} (e : w.scheduled ≡ run) (d : k ≡ length (due_in run c.scheduled t)) (h : sound w c ≡ true) where
  answer_length : length (handed_out (load w c) t) ≡ handed_size * k
  answer_length = handed_length w c t ∙ ap (λ j. handed_size * j) (rw e (cc d))

  pub cleanup_short : m < handed_size * k → short_answer_area ≡ refusal w c m (clean_up t)
  unfolding effect answer
  cleanup_short l = refusal_short w c m (clean_up t) h refl refl (cleanup_room w c t (sound_fits w c h)) (omega (arith, l, answer_length))

  pub cleanup_accepted : handed_size * k ≤ m → accepted ≡ refusal w c m (clean_up t)
  unfolding effect answer
  cleanup_accepted l = refusal_none w c m (clean_up t) h refl refl (cleanup_room w c t (sound_fits w c h)) (omega (arith, l, answer_length))
