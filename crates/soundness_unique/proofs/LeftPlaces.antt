-- Places left by their hashes, those whose hash another has: what lies in a run for all of them, and what they decide.
use Prim.Native.Nat.{ℕ, ◌+◌, ◌*◌, ◌≤◌, ◌<◌}
use mathlib.Core.Path.{◌≡◌, refl, sym, ap, ◌∙◌}
use mathlib.Core.Bool.{Bool, true, not}
use mathlib.Core.List.{List, map}
use lib.Dec.{leb, ltb}
use lib.ListN.{length, length-map}
use borrow.Author.Tests.{ltb-true, lt-ltb, eq-eqb}
use Rattle.lists.specs.Lists.{range, all, pairwise}
use Rattle.lists.specs.Runs.{field}
use Rattle.lists.proofs.Loops.{length-range}
use Rattle.lists.proofs.Tests.{if, and}
use Rattle.lists.proofs.Members.{In, all_in, in_all}
use Rattle.lists.proofs.Selections.{pairwise_ext, pairwise_map}
use Rattle.sorting.specs.Colliding.{hash_limit, same_prefix, Kept}
use Rattle.sorting.specs.Keys.{Keyed}
use Rattle.sorting.proofs.Collisions.{all-below}
use Rattle.sorting.proofs.Groups.{within_range}
use Rattle.sorting.proofs.KeyOrder.{keyed_range}
use Rattle.soundness_unique.specs.Naming.{keys_apart, Living, keyed_at}

-- the places kept of all places
pub kept_all : {hash : ℕ → ℕ} {n m : ℕ} {w hashes left : List ℕ} → w ≡ range 0 m → m ≡ n → hashes ≡ map hash (range 0 n) → (hashes ≡ map hash w → Kept hash w left) → Kept hash (range 0 n) left
kept_all e l g f = rw (e ∙ ap (range 0) l) at (f (rw (e, l) g))

-- the hashes of all are below their limit, and places left by them are so of all
module _ (hash : ℕ → ℕ) {n m k : ℕ} {hashes : List ℕ} (e : k ≡ n) (l : m ≡ n) (g : hashes ≡ map hash (range 0 m)) where
  pub all_hashed : ((i : ℕ) → hash i < hash_limit) → (length hashes ≡ k) × (all (λ h. ltb h hash_limit) hashes ≡ true)
  all_hashed b = (rw (g, length-map, length-range, l, e) refl, all-below hash hash_limit b (range 0 m) g)

  pub left_kept : {left : List ℕ} → ((hash : ℕ → ℕ) (j : ℕ) → k ≡ j → hashes ≡ map hash (range 0 j) → Kept hash (range 0 j) left) → Kept hash (range 0 n) left
  left_kept f = f hash n e (rw l at g)

module _ {hash : ℕ → ℕ} (n : ℕ) {left : List ℕ} (k : Kept hash (range 0 n) left) where
  pub left_keyed : (size : ℕ) (run : List ℕ) → size * n ≤ length run → Keyed size run left
  left_keyed size run l = record { keyed = k.within (λ p. leb (size * p + size) (length run)) (keyed_range size run n l).keyed }

  pub left_within : all (λ p. ltb p n) left ≡ true
  left_within = k.within (λ p. ltb p n) (within_range n)

  pub left_below : (i : ℕ) → In i left → i < n
  left_below i m = ltb-true i n (all_in (λ p. ltb p n) left left_within m)

  -- by keys whether two things are the same, where things that are the same have one hash
  pub left_differ : {A : Type 0} (same : A → A → Bool) (f : ℕ → A) (size : ℕ) (keys : List ℕ) {r : Bool} → ((i j : ℕ) → same (f i) (f j) ≡ true → hash i ≡ hash j)
      → ((i j : ℕ) → In i left → In j left → same_prefix size size keys i j ≡ same (f i) (f j)) → r ≡ pairwise (λ i j. not (same_prefix size size keys i j)) left
      → r ≡ pairwise (λ a b. not (same a b)) (map f (range 0 n))
  left_differ same f size keys s t e =
      e ∙ (pairwise_ext (λ i j. not (same_prefix size size keys i j)) (λ i j. not (same (f i) (f j))) left (λ i j a b. ap not (t i j a b))
      ∙ (k.decided (λ i j. not (same (f i) (f j))) (λ i j d. if (same (f i) (f j)) (λ b. absurd (d (s i j b))) (λ b. rw b refl))
      ∙ sym (pairwise_map (λ a b. not (same a b)) f (range 0 n))))

  -- and whether two records are apart that share a live number, where any two with different hashes are
  pub left_apart : (apart : ℕ → ℕ → Bool) (used size begin : ℕ) (run keys : List ℕ) {r : Bool} → Living size begin run n → ((i j : ℕ) → (hash i ≡ hash j → ⊥) → apart i j ≡ true)
      → ((i : ℕ) → In i left → field (used + 1) used keys i ≡ field size begin run i) → ((i j : ℕ) → In i left → In j left → keys_apart used keys size begin run i j ≡ apart i j)
      → ((m : ℕ) → Living size begin run m → all (keyed_at used keys size begin run m) left ≡ true → r ≡ pairwise (keys_apart used keys size begin run) left)
      → r ≡ pairwise apart (range 0 n)
  left_apart apart used size begin run keys l s b t f =
      f n l (in_all (keyed_at used keys size begin run n) left (λ i m. and (lt-ltb i n (left_below i m)) (eq-eqb _ _ (b i m))))
      ∙ (pairwise_ext (keys_apart used keys size begin run) apart left t ∙ k.decided apart s)
