-- Records changed in their places by their words: a loop that sets one word of some records, and what that is for a table.
use Prim.Native.Nat.{ℕ, suc, ◌+◌, ◌*◌, ◌-◌, ◌≤◌, ◌<◌}
use mathlib.Core.Path.{◌≡◌, refl, sym, ap, ◌∙◌}
use mathlib.Core.Bool.{true, false, ◌&&◌}
use mathlib.Core.List.{List, [], flat_map, append-nil}
use native.Mathlib.Omega.{arith}
use native.Mathlib.Nat.{mul-zero, mul-suc, mul-le-mul_left}
use native.Mathlib.Numerals.{add-one}
use lib.Dec.{eqb}
use lib.ListN.{length, get_or, take, drop, set, length-take, length-drop, length-set}
use lib.Seq.{get_or-take, get_or-drop, take-set-le, drop-set-lt, take-set-lt, drop-set-add}
use Rattle.lists.specs.Lists.{range}
use Rattle.lists.specs.Runs.{field, overwrite, set_where, each_record}
use Rattle.lists.proofs.Members.{in_range_lem}
use Rattle.lists.proofs.Runs.{overwrite_none, overwrite_over, overwrite_past, overwrite_same, record_fits}
use Rattle.lists.proofs.Selections.{flat_map_ext}

-- the words of the record at place i
abbrev pub record_at : ℕ → List ℕ → ℕ → List ℕ
record_at size w i = take size (drop (size * i) w)

pub record_length : (size : ℕ) (w : List ℕ) (i : ℕ) → size * i + size ≤ length w → length (record_at size w i) ≡ size
record_length size w i h = rw (length-take, length-drop) (omega arith)

pub record_word : (size j : ℕ) (w : List ℕ) (i : ℕ) → j < size → get_or (record_at size w i) j 0 ≡ field size j w i
unfolding field
record_word size j w i h = get_or-take size (drop (size * i) w) j 0 h ∙ get_or-drop (size * i) w j 0

-- a record as it stands, and one with a word set, written in its place
pub record_same : (size : ℕ) (w : List ℕ) (k : ℕ) → k + size ≤ length w → overwrite w k (take size (drop k w)) ≡ w
record_same size w k h = rw append-nil at (overwrite_same w k size [] h) ∙ overwrite_none w (k + size)

pub record_set : (size j v : ℕ) (w : List ℕ) (k : ℕ) → j < size → k + size ≤ length w → overwrite w k (set (take size (drop k w)) j v) ≡ set w (k + j) v
unfolding overwrite
record_set size j v w k h f =
    let a : set (take size (drop k w)) j v ≡ take size (drop k (set w (k + j) v)) = rw (drop-set-add k w j v, take-set-lt size (drop k w) j v h) refl in
    let l : length (take size (drop k (set w (k + j) v))) ≡ size = rw (length-take, length-drop, length-set) (omega arith) in
    let front : take k w ≡ take k (set w (k + j) v) = sym (take-set-le k w (k + j) v (omega arith)) in
    let back : drop (k + size) w ≡ drop (k + size) (set w (k + j) v) = sym (drop-set-lt (k + size) w (k + j) v (omega arith)) in
    rw (a, l, front, back) (rw l at (record_same size (set w (k + j) v) k (rw length-set f)))

-- a loop that changes the words of each record: what the run comes to from the turn i on
module _ (size : ℕ) (g : List ℕ → List ℕ) (n : ℕ) where
  changed : List ℕ → ℕ → List ℕ
  changed w j = g (record_at size w j)

  pub changing : List ℕ → ℕ → List ℕ
  unfolding changed
  changing w i = overwrite w (size * i) (flat_map (changed w) (range i (n - i)))

  pub changing_start : (w : List ℕ) → each_record size g w n ≡ changing w 0
  unfolding changing each_record changed range
  changing_start w = rw (mul-zero, whole) refl
    where
      whole : n - 0 ≡ n
      whole = omega arith

  pub changing_next : (w v : List ℕ) (i : ℕ) → i < n → length (g (record_at size w i)) ≡ size → size * n ≤ length w
      → v ≡ overwrite w (size * i) (g (record_at size w i)) → changing w i ≡ changing v (i + 1)
  unfolding changing changed range flat_map
  changing_next w v i h l s e =
      let m : size * i + size ≤ length w = record_fits size h s in
      let left : n - i ≡ suc (n - suc i) = omega arith in
      rw (e, add-one, left, mul-suc, overwrite_over w (size * i) (g (record_at size w i)) _ (omega arith), l)
      (ap (overwrite (overwrite w (size * i) (g (record_at size w i))) (size * i + size))
      (flat_map_ext (changed w) (changed (overwrite w (size * i) (g (record_at size w i)))) (range (suc i) (n - suc i))
      (λ j q. ap (λ x. g (take size x)) (sym (overwrite_past w (size * i) (g (record_at size w i)) (size * j) (omega arith) (omega (arith, mul-le-mul_left size (in_range_lem (suc i) (n - suc i) q).0)))))))

  pub changing_end : (w : List ℕ) (i : ℕ) → n ≤ i → changing w i ≡ w
  unfolding changing range flat_map
  changing_end w i h = let none : n - i ≡ 0 = omega arith in rw none (overwrite_none w (size * i))

-- the loop of `set_where`
module _ (size key at k old new n : ℕ) (p : key < size) (q : at < size) (w : List ℕ) (i : ℕ) (h : i < n) (s : size * n ≤ length w) where
  abbrev g : List ℕ → List ℕ
  g = set_where key at k old new

  set-one : {x y : ℕ} → x ≡ field size key w i → y ≡ field size at w i → (eqb x k && eqb y old) ≡ true → g (record_at size w i) ≡ set (record_at size w i) at new
  unfolding set_where
  set-one e f t = rw (record_word size key w i p, record_word size at w i q, ← e, ← f, t) refl

  keep_one : {x y : ℕ} → x ≡ field size key w i → y ≡ field size at w i → (eqb x k && eqb y old) ≡ false → g (record_at size w i) ≡ record_at size w i
  unfolding set_where
  keep_one e f t = rw (record_word size key w i p, record_word size at w i q, ← e, ← f, t) refl

  pub set_next : {x y : ℕ} (v : List ℕ) → x ≡ field size key w i → y ≡ field size at w i → (eqb x k && eqb y old) ≡ true
      → v ≡ set w (size * i + at) new → changing size g n w i ≡ changing size g n v (i + 1)
  set_next v e f t d =
      let c = set-one e f t in
      let m : size * i + size ≤ length w = record_fits size h s in
      changing_next size g n w v i h (ap length c ∙ (length-set (record_at size w i) at new ∙ record_length size w i m)) s (d ∙ sym (ap (overwrite w (size * i)) c ∙ record_set size at new w (size * i) q m))

  pub keep_next : {x y : ℕ} → x ≡ field size key w i → y ≡ field size at w i → (eqb x k && eqb y old) ≡ false → changing size g n w i ≡ changing size g n w (i + 1)
  keep_next e f t =
      let c = keep_one e f t in
      let m : size * i + size ≤ length w = record_fits size h s in
      changing_next size g n w w i h (ap length c ∙ record_length size w i m) s (sym (ap (overwrite w (size * i)) c ∙ record_same size w (size * i) m))
