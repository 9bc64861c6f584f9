-- What the places left by their hashes decide, once they are sorted and each is compared with the next.
use Rattle.std.proofs.Common.{◌≡◌, ℕ, Bool, true, not, ◌||◌, List, sym, refl, ap, ◌∙◌}
use borrow.Author.Tests.{not-true}
use Rattle.lists.specs.Lists.{has, all, pairwise, chained}
use Rattle.lists.proofs.Tests.{Reflects, if, clash}
use Rattle.lists.proofs.Members.{In, all_in, in_all, reflects_has}
use Rattle.lists.proofs.Selections.{pairwise_ext}
use Rattle.sorting.specs.declared.keys.Keys.{Keys}
use Rattle.sorting.specs.Colliding.{Thinned}
use Rattle.sorting.specs.Sorting.{Permutes}
use Rattle.sorting.specs.Ordered.{same, ordered, Decided}
use Rattle.sorting.specs.Keys.{key_at}
use Rattle.sorting.proofs.KeyOrder.{order_trans, same_swap, same_self, same_words_lem, most_between}
use Rattle.sorting.proofs.Permutations.{permutes_all, sorted_apart}

-- of places left and sorted each was there before
pub left_in : {size used : ℕ} {run xs ys zs : List ℕ} → Thinned size used run xs ys → Permutes zs ys → {i : ℕ} → In i zs → In i xs
left_in {xs = xs} {ys} {zs} t p {i} m =
    (reflects_has i xs).to (all_in (λ j. has j xs) zs (permutes_all (λ j. has j xs) zs ys p ∙ t.within (λ j. has j xs) (in_all (λ j. has j xs) xs (λ j n. (reflects_has j xs).from n))) m)

module _ {keys : Keys} {used : ℕ} {q : ℕ → ℕ → Bool} {xs : List ℕ} (d : Decided keys used q xs) where
  -- q, where two with other first words are apart without more ado
  abbrev told : ℕ → ℕ → Bool
  told i j = not (same used keys i j) || q i j

  agree_on : (ps : List ℕ) → all d.passes ps ≡ true → pairwise told ps ≡ pairwise q ps
  agree_on ps l = pairwise_ext told q ps (λ i j a b.
      if (same used keys i j) (λ e. rw e refl) (λ e. rw e (sym (d.other i j (all_in d.passes ps l a) (all_in d.passes ps l b) e))))

  pub decided : {ys zs : List ℕ} → Thinned keys.size used keys.words.now xs ys → Permutes zs ys → chained (ordered keys) zs ≡ true → chained q zs ≡ pairwise q xs
  decided {ys} {zs} t p o =
      let l = t.within d.passes d.pass in
      sorted_apart (ordered keys) q d.passes (order_trans keys.size keys.words.now) d.between d.swapped ys zs p l o
      ∙ (sym (agree_on ys l) ∙ (t.decided told (λ i j e. rw e refl) ∙ agree_on xs d.pass))

-- two keys are told apart by all of their words
pub keys_decided : (keys : Keys) (xs : List ℕ) → Decided keys keys.size (λ i j. not (same keys.size keys i j)) xs
keys_decided keys xs = record {
  passes = λ _. true;
  pass = in_all (λ _. true) xs (λ _ _. refl);
  swapped = λ i j. ap not (same_swap (words i) (words j));
  other = λ i j _ _ e. ap not e;
  between = λ i j k _ _ _ g h e f.
      if (same keys.size keys i k)
      (λ s. let q = most_between (words i) (words j) (words k) g h (same_words_lem (words i) (words k) s) in
      clash (rw q (same_self (words j))) (not-true (same keys.size keys i j) e))
      (λ s. rw s refl);
}
  where
    words : ℕ → List ℕ
    words i = key_at keys.size keys.words.now i
