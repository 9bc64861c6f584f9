-- Keys written one at a time: the key at a place is what was written there, and those of other places are as they were.
use Prim.Native.Nat.{ℕ, ◌+◌, ◌*◌, ◌-◌, ◌≤◌, ◌<◌}
use mathlib.Core.Path.{◌≡◌, sym, ap, ◌∙◌}
use mathlib.Core.List.{List, ◌++◌}
use native.Mathlib.Omega.{arith}
use lib.Dec.{ltb, eqb}
use lib.ListN.{length, get_or, take, drop, get_or-append}
use lib.Seq.{take_all, length-take-le, get_or-take, get_or-drop, get_or-append-add}
use borrow.Author.Tests.{ltb-true, ltb-false, eqb-true, eqb-false}
use Rattle.lists.specs.Lists.{range}
use Rattle.lists.specs.Runs.{field, overwrite}
use Rattle.lists.proofs.Tests.{if}
use Rattle.lists.proofs.Layouts.{words_one_by_one}
use Rattle.lists.proofs.Members.{in_nil, in_range_lem}
use Rattle.lists.proofs.Runs.{overwrite_length, overwrite_past, record_fits}
use Rattle.lists.proofs.Selections.{map_ext}
use Rattle.sorting.specs.Keys.{key_at, Keyed}
use Rattle.sorting.proofs.KeyOrder.{keyed_at_lem}
use Rattle.sorting.proofs.Putting.{place-before}
use Rattle.soundness_unique.specs.Naming.{KeysPut}

module _ (size : ℕ) (keys : List ℕ) (p : ℕ) (ws : List ℕ) (l : length ws ≡ size) (h : size * p + size ≤ length keys) where
  abbrev new : List ℕ
  new = overwrite keys (size * p) ws

  front : length (take (size * p) keys) ≡ size * p
  front = length-take-le (size * p) keys (omega arith)

  -- words before those that were written, among them, and behind them
  before : (m : ℕ) → m < size * p → get_or new m 0 ≡ get_or keys m 0
  unfolding overwrite
  before m k = get_or-append (take (size * p) keys) (ws ++ drop (size * p + length ws) keys) 0 m (omega (arith, front)) ∙ get_or-take (size * p) keys m 0 k

  among : (k : ℕ) → k < size → get_or new (size * p + k) 0 ≡ get_or ws k 0
  unfolding overwrite
  among k g =
      ap (λ (i : ℕ). get_or (take (size * p) keys ++ (ws ++ drop (size * p + length ws) keys)) (i + k) 0) (sym front)
      ∙ (get_or-append-add (take (size * p) keys) (ws ++ drop (size * p + length ws) keys) k 0 ∙ get_or-append ws (drop (size * p + length ws) keys) 0 k (omega (arith, l)))

  behind : (m : ℕ) → size * p + size ≤ m → get_or new m 0 ≡ get_or keys m 0
  behind m k =
      let e : m ≡ m + 0 = omega arith in
      ap (λ (i : ℕ). get_or new i 0) e ∙ (sym (get_or-drop m new 0 0)
      ∙ (ap (λ (xs : List ℕ). get_or xs 0 0) (overwrite_past keys (size * p) ws m (omega arith) (omega (arith, l, k))) ∙ (get_or-drop m keys 0 0 ∙ ap (λ (i : ℕ). get_or keys i 0) (sym e))))

  written : key_at size new p ≡ ws
  unfolding field
  written =
      map_ext (λ k. field size k new p) (λ k. get_or ws k 0) (range 0 (size - 0)) (λ k m. among k (omega (arith, in_range_lem 0 (size - 0) m)))
      ∙ (words_one_by_one (size - 0) ws (omega (arith, l)) ∙ take_all (size - 0) ws (omega (arith, l)))

  kept : (q : ℕ) → (q ≡ p → ⊥) → key_at size new q ≡ key_at size keys q
  unfolding field
  kept q a = map_ext (λ k. field size k new q) (λ k. field size k keys q) (range 0 (size - 0)) (λ k m. word k (omega (arith, in_range_lem 0 (size - 0) m)))
    where
      word : (k : ℕ) → k < size → get_or new (size * q + k) 0 ≡ get_or keys (size * q + k) 0
      word k g = if (ltb q p)
          (λ e. before (size * q + k) (omega (arith, record_fits size {n = p} {m = size * p} (ltb-true q p e) (omega arith))))
          (λ e. let o : p < q = omega (arith, ltb-false q p e, a) in behind (size * q + k) (omega (arith, record_fits size {n = q} {m = size * q} o (omega arith))))

-- a place more
module _ (f : ℕ → List ℕ) (size : ℕ) where
  pub keys_start : (w keys : List ℕ) → KeysPut f size (take 0 w) keys
  keys_start w keys = record { put = λ i m. in_nil m }

  pub keys_next : (w old keys new : List ℕ) (i : ℕ) → i < length w → Keyed size old w → ((q : ℕ) → length (f q) ≡ size) → new ≡ overwrite keys (size * get_or w i 0) (f (get_or w i 0))
      → length keys ≡ length old → KeysPut f size (take i w) keys → (length new ≡ length old) × KeysPut f size (take (i + 1) w) new
  keys_next w old keys new i l k g e o s = (
    rw e (overwrite_length keys (size * p) (f p) (omega (arith, room, g p)) ∙ o),
    record {
      put = λ q m. rw e (if (eqb q p)
          (λ t. let u : q ≡ p = eqb-true q p t in rw u (written size keys p (f p) (g p) room))
          (λ t. kept size keys p (f p) (g p) room q (eqb-false q p t) ∙ s.put q (place-before w i q l (eqb-false q p t) m)));
    },
  )
    where
      p : ℕ
      p = get_or w i 0

      room : size * p + size ≤ length keys
      room = omega (arith, keyed_at_lem size old w i k l, o)

  pub keys_end : (w keys : List ℕ) (i : ℕ) → length w ≤ i → KeysPut f size (take i w) keys → KeysPut f size w keys
  keys_end w keys i h s = rw (take_all i w h) at s
