-- What an accepted call keeps and moves, on the catalog.
use Prim.Native.Nat.{ℕ, suc, ◌+◌, ◌≤◌, ◌<◌}
use mathlib.Core.Path.{◌≡◌, refl, sym, ap, ◌∙◌}
use mathlib.Core.List.{List, [], ◌∷◌, ◌++◌, map, append-nil, flat_map}
use mathlib.Core.Bool.{true, false, not, ◌||◌}
use native.Mathlib.Omega.{arith}
use lib.Dec.{leb, eqb, ltb}
use lib.ListN.{length}
use borrow.Author.Tests.{ne_eqb}
use Rattle.lists.specs.Lists.{all, filter, has, bit, count}
use Rattle.lists.proofs.Tests.{if, clash, both}
use Rattle.layout.specs.declared.outcome.Counts.{Counts}
use Rattle.layout.specs.declared.outcome.Terms.{Terms}
use Rattle.layout.specs.Words.{Words, load}
use Rattle.layout.specs.Catalog.{absent, Scheduled, Catalog}
use Rattle.ducklake.specs.Liveness.{retained, latest, latest_id}
use Rattle.ducklake.specs.Soundness.{file_ids, sound}
use Rattle.ducklake.specs.Refusals.{accepted, not_sound, no_room, short_answer_area, expires_latest, not_retained, number_too_large, refuse_unless, first}
use Rattle.ducklake.specs.Commits.{Commit, change_of, next_snapshot, commit, numbers_fit}
use Rattle.ducklake.specs.Readings.{Query, query_answer, query_refusals}
use Rattle.ducklake.specs.Maintenance.{expire, due, handed_out, cleanup}
use Rattle.ducklake.specs.Calls.{Call, commit_at, expire_snapshots, clean_up, refusals, call_refusals, effect, answer, has_room, refusal}
use Rattle.ducklake.specs.Journal.{Journal}
use Rattle.ducklake.specs.Claim.{journal_after, expired_by, file_ids_of, time_of}
use Rattle.ducklake.proofs.facts.Facts.{Sound}
use Rattle.ducklake.proofs.facts.FirstRefusals.{NumberedFrom, AllPassed, unless_passed, numbered_append, first_append, first_zero, first_passed}
use Rattle.ducklake.proofs.commits.Good.{Good, Chain}
use Rattle.ducklake.proofs.readings.Frames.{commit_judge, commit_answer, expire_judge, expire_answer, cleanup_judge, cleanup_answer}
use Rattle.ducklake.proofs.commits.Soundness.{commit_latest, next_small, commit_count, commit_sound}
use Rattle.ducklake.proofs.commits.Changes.{numbered, change_good}
use Rattle.ducklake.proofs.expiry.Expire.{expire_latest, expire_count, expire_sound, cleanup_count, cleanup_sound}
use Rattle.ducklake.proofs.claim.Chains.{commit_chain, expire_chain, cleanup_chain}
use Rattle.ducklake.proofs.journal.Journals.{JournalOk, commit_journal, expire_journal, cleanup_journal}
use Rattle.ducklake.proofs.claim.Retained.{Tally, retained_commit, commit_tally, retained_expire, expire_tally, cleanup_tally}
use Rattle.ducklake.proofs.claim.Listed.{Falls, commit_falls, expire_falls, cleanup_falls}

-- the ids in a cleanup's answer are those of what is due
ids_of : (xs : List Scheduled) → file_ids_of (flat_map (λ x. x.file ∷ x.uuid.high ∷ x.uuid.low ∷ []) xs) ≡ map (λ x. x.file) xs
unfolding flat_map
ids_of [] = refl
ids_of (x ∷ xs) = ap (λ (ks : List ℕ). x.file ∷ ks) (ids_of xs)

-- older readings stay
pub record Stays (C C' : Catalog) : Type 0 where
  pub later : latest_id C ≤ latest_id C'
  pub had : (s : ℕ) → retained C'.snapshots s ≡ true → s ≤ latest_id C → retained C.snapshots s ≡ true
  pub judged : (s : ℕ) → retained C'.snapshots s ≡ true → s ≤ latest_id C → (q : Query) (rest : ℕ) → first (query_refusals C' s q) rest ≡ first (query_refusals C s q) rest
  pub answered : (s : ℕ) → retained C'.snapshots s ≡ true → s ≤ latest_id C → (q : Query) → query_answer C' s q ≡ query_answer C s q

pub record Moved (C : Catalog) (k : Call) : Type 0 where
  pub sound : Sound (effect C k)
  pub chain : Chain (effect C k)
  pub stays : Stays C (effect C k)
  pub journal : (J : Journal) → JournalOk C J → JournalOk (effect C k) (journal_after J k)
  pub tally : (X : List ℕ) → Tally C X → Tally (effect C k) (X ++ expired_by k)
  pub falls : Falls C (effect C k) (file_ids_of (answer C k)) (time_of k)
  pub counted : (i : ℕ) → count (λ j. eqb j i) (file_ids (effect C k)) + (count (λ j. eqb j i) (file_ids_of (answer C k)) + bit (ltb i (latest C).next_file_id))
      ≡ count (λ j. eqb j i) (file_ids C) + bit (ltb i (latest (effect C k)).next_file_id)

committed : (C : Catalog) → Sound C → Chain C → (terms : Terms) (k : Commit) → AllPassed (refusals C terms k) → numbers_fit C (change_of C terms.time k) ≡ true → Moved C (commit_at terms k)
unfolding effect answer count
committed C S H terms k h n = record {
  sound = commit_sound C (change_of C terms.time k) S G;
  chain = commit_chain C S H terms k h;
  stays = record {
    later = omega (arith, e);
    had = λ s r l. had s r l;
    judged = λ s r l. commit_judge C (change_of C terms.time k) s l small;
    answered = λ s r l. commit_answer C (change_of C terms.time k) s l small S G.statistics_new;
  };
  journal = commit_journal C S H terms k h n;
  tally = λ X T. rw (append-nil X) (commit_tally C (change_of C terms.time k) X T);
  falls = commit_falls C (change_of C terms.time k) S G (commit_sound C (change_of C terms.time k) S G) terms.time;
  counted = λ i. omega (arith, commit_count C (change_of C terms.time k) i, ap (λ m. bit (ltb i m.next_file_id)) (commit_latest C (change_of C terms.time k)));
}
  where
    G : Good C (change_of C terms.time k)
    G = change_good C S H terms k h n

    small : suc (latest_id C) < absent
    small = next_small C (change_of C terms.time k) G

    e : latest_id (commit C (change_of C terms.time k)) ≡ suc (latest_id C)
    e = unfold next_snapshot in ap (λ m. m.id) (commit_latest C (change_of C terms.time k))

    had : (s : ℕ) → retained (commit C (change_of C terms.time k)).snapshots s ≡ true → s ≤ latest_id C → retained C.snapshots s ≡ true
    had s r l =
        let q : (retained C.snapshots s || eqb (suc (latest_id C)) s) ≡ true = sym (retained_commit C (change_of C terms.time k) s) ∙ r in
        let z : eqb (suc (latest_id C)) s ≡ false = ne_eqb (suc (latest_id C)) s (λ m. omega arith) in
        if (retained C.snapshots s) (λ b. b) (λ b. clash (rw (b, z) at q) refl)

expired : (C : Catalog) → Sound C → Chain C → (ids : List ℕ) (time : ℕ) → all (retained C.snapshots) ids ≡ true → not (has (latest_id C) ids) ≡ true → Moved C (expire_snapshots ids time)
unfolding effect answer count
expired C S H ids time known stays = record {
  sound = expire_sound C S ids time stays;
  chain = expire_chain C S H ids time stays;
  stays = record {
    later = omega (arith, ap (λ m. m.id) e);
    had = λ s r l. (both (retained C.snapshots s) (not (has s ids)) (sym (retained_expire C ids time s) ∙ r)).0;
    judged = λ s r l. expire_judge C ids time s r;
    answered = λ s r l. expire_answer C ids time s r;
  };
  journal = λ J O. expire_journal C S ids time stays J O;
  tally = expire_tally C S ids time stays known;
  falls = expire_falls C S ids time stays (expire_sound C S ids time stays);
  counted = λ i. omega (arith, expire_count C S ids time stays i, ap (λ m. bit (ltb i m.next_file_id)) e);
}
  where
    e : latest (expire C ids time) ≡ latest C
    e = expire_latest C S ids time stays

cleaned : (C : Catalog) → Sound C → Chain C → (t : ℕ) → Moved C (clean_up t)
unfolding effect answer handed_out cleanup retained
cleaned C S H t = record {
  sound = cleanup_sound C S t;
  chain = cleanup_chain C H t;
  stays = record {
    later = omega arith;
    had = λ s r l. r;
    judged = λ s r l. cleanup_judge C t s;
    answered = λ s r l. cleanup_answer C t s;
  };
  journal = λ J O. cleanup_journal C t J O;
  tally = λ X T. rw (append-nil X) (cleanup_tally C t X T);
  falls = rw (ids_of (filter (due t) C.scheduled)) (cleanup_falls C S t (cleanup_sound C S t));
  counted = λ i. rw (ids_of (filter (due t) C.scheduled)) (omega (arith, cleanup_count C t i));
}

pub numbered_call : (C : Catalog) (k : Call) → NumberedFrom 1 (call_refusals C k)
numbered_call C (commit_at terms k) = numbered_append 1 (refusals C terms k) _ (numbered C terms k) (omega arith)
numbered_call C (expire_snapshots ids time) = omega arith
numbered_call C (clean_up t) = tt

-- 1, then the call's own, then 2 and 3
pub refusal_parts : (w : Words) (c : Counts) (m : ℕ) (k : Call) → refusal w c m k
    ≡ refuse_unless not_sound (sound w c) (first (call_refusals (load w c) k) (refuse_unless no_room (has_room w (effect (load w c) k)) (refuse_unless short_answer_area (leb (length (answer (load w c) k)) m) accepted)))
unfolding refusal
refusal_parts w c m k = ap (refuse_unless not_sound (sound w c)) (first_append (call_refusals (load w c) k) _ accepted)

pub moved : (C : Catalog) → Sound C → Chain C → (k : Call) → first (call_refusals C k) 0 ≡ 0 → Moved C k
moved C S H (commit_at terms k) h =
    let a = first_zero (refusals C terms k) _ (numbered C terms k) (sym (first_append (refusals C terms k) _ 0) ∙ h) in
    committed C S H terms k (first_passed (refusals C terms k) (numbered C terms k) a.0) (unless_passed number_too_large (numbers_fit C (change_of C terms.time k)) 0 (omega arith) a.1).0
moved C S H (expire_snapshots ids time) h =
    let p = first_passed (call_refusals C (expire_snapshots ids time)) (omega arith) h in
    expired C S H ids time (p not_retained) (p expires_latest)
moved C S H (clean_up t) h = cleaned C S H t
