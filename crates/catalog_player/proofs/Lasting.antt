-- Sound and chained tables stay so whatever is asked of them (R15), and runs as long as they were have the same room: what the check gave holds on.
use Prim.Native.Nat.{ℕ}
use mathlib.Core.Path.{◌≡◌, refl, sym, ap, ap₂, subst, ◌∙◌}
use mathlib.Core.Bool.{Bool, true, false, not, false≢true}
use mathlib.Core.List.{List}
use lib.Dec.{eqb}
use lib.ListN.{length}
use borrow.Author.Tests.{not-false}
use Rattle.lists.proofs.Tests.{if, both}
use Rattle.layout.specs.declared.outcome.Counts.{Counts}
use Rattle.layout.specs.declared.outcome.Outcome.{Outcome}
use Rattle.layout.specs.Words.{Words, load, capacity, within, fits}
use Rattle.layout.proofs.RoundTrip.{load_store, fits_store}
use Rattle.layout.proofs.Room.{capacity_same}
use Rattle.ducklake.specs.Soundness.{sound}
use Rattle.ducklake.specs.Refusals.{accepted}
use Rattle.ducklake.specs.Commits.{fresh_catalog}
use Rattle.ducklake.specs.Calls.{Call, effect, has_room, Result, perform, perform_fresh, Reading, reading_refusal, perform_reading, Promise}
use Rattle.ducklake.specs.Lookup.{lookup_refusal, perform_lookup}
use Rattle.ducklake.specs.Claim.{fresh_state}
use Rattle.ducklake.specs.Observed.{calls, reads, looks_up}
use Rattle.ducklake.proofs.facts.Facts.{Sound, reflects_sound}
use Rattle.ducklake.proofs.commits.Good.{Chain}
use Rattle.ducklake.proofs.claim.Tables.{named}
use Rattle.ducklake.proofs.claim.Accepted.{moved}
use Rattle.ducklake.proofs.claim.Histories.{performed, refused_words}
use Rattle.ducklake.proofs.claim.Whole.{fresh_inv}
use Rattle.call_lists.specs.Calls.{Asked, fresh, asks, perform_asked}
use Rattle.refusals.specs.declared.checked.Checked.{Checked}
use Rattle.refusals.specs.Checked.{checked_of}
use Rattle.chaining.specs.Chained.{is_chained}
use Rattle.chaining.proofs.Chains.{chain_of, chain_tells}
use Rattle.catalog_player.specs.declared.judge.Judged.{Judged}
use Rattle.catalog_player.specs.Lasting.{Lasting}
use Rattle.catalog_player.proofs.Held.{SameLengths, as_long}

-- sound and chained
record Good (w : Words) (c : Counts) : Type 0 where
  fit : fits w c ≡ true
  sound : Sound (load w c)
  chain : Chain (load w c)

abbrev Stays : Words → Counts → Result → Type 0
Stays w c r = Good w c → Good r.words r.counts

unmoved : (w : Words) (c : Counts) (r : Result) → (r.words ≡ w) × (r.counts ≡ c) → Stays w c r
unmoved w c r p J = subst (λ (v : Words). Good v r.counts) (sym p.0) (subst (Good w) (sym p.1) J)

call_stays : (k : Call) (w : Words) (c : Counts) (area : List ℕ) → Stays w c (perform k w c area)
unfolding fits
call_stays k w c area J =
    if (eqb (perform k w c area).number accepted)
    (λ h.
    let P = performed k w c area h in
    let M = moved (load w c) J.sound J.chain k P.judged in
    let e : load (perform k w c area).words (perform k w c area).counts ≡ effect (load w c) k =
    ap₂ load P.words P.counts ∙ load_store w c (effect (load w c) k) (named M.sound) in
    record {
      fit = ap₂ fits P.words P.counts ∙ fits_store w c (effect (load w c) k) (named M.sound) (both (within c (capacity w)) _ J.fit).0 P.room;
      sound = subst Sound (sym e) M.sound;
      chain = subst Chain (sym e) M.chain;
    })
    (λ h. unmoved w c (perform k w c area) (refused_words k w c area h) J)

reading_stays : (q : Reading) (w : Words) (c : Counts) (area : List ℕ) → Stays w c (perform_reading q w c area)
unfolding perform_reading
reading_stays q w c area = unmoved w c (perform_reading q w c area) (if (eqb (reading_refusal w c (length area) q) accepted) (λ b. (rw b refl, rw b refl)) (λ b. (rw b refl, rw b refl)))

lookup_stays : (k : ℕ) (w : Words) (c : Counts) (area : List ℕ) → Stays w c (perform_lookup k w c area)
unfolding perform_lookup
lookup_stays k w c area = unmoved w c (perform_lookup k w c area) (if (eqb (lookup_refusal w c (length area) k) accepted) (λ b. (rw b refl, rw b refl)) (λ b. (rw b refl, rw b refl)))

fresh_stays : (time : ℕ) (w : Words) (c : Counts) (area : List ℕ) → Stays w c (perform_fresh time w c area)
unfolding fresh_state perform_fresh
fresh_stays time w c area J =
    if (has_room w (fresh_catalog time))
    (λ b. let T = (fresh_inv time w c area (rw b refl)).tables in record { fit = T.fit; sound = T.sound; chain = T.chain })
    (λ b. unmoved w c (perform_fresh time w c area) (rw b refl, rw b refl) J)

asked_stays : (x : Asked) (w : Words) (c : Counts) (area : List ℕ) → Stays w c (perform_asked x w c area)
asked_stays (fresh time) w c area = fresh_stays time w c area
asked_stays (asks (calls k)) w c area = call_stays k w c area
asked_stays (asks (reads q)) w c area = reading_stays q w c area
asked_stays (asks (looks_up file)) w c area = lookup_stays file w c area

-- the same as tests
pub stays : (x : Asked) (w : Words) (c : Counts) (area : List ℕ) → sound w c ≡ true → is_chained (load w c) ≡ true
    → (sound (perform_asked x w c area).words (perform_asked x w c area).counts ≡ true) × (is_chained (load (perform_asked x w c area).words (perform_asked x w c area).counts) ≡ true)
stays x w c area h k =
    let p = (reflects_sound w c).to h in
    let J = asked_stays x w c area (record { fit = p.0; sound = p.1; chain = chain_of (load w c) p.1 k }) in
    ((reflects_sound _ _).from (J.fit, J.sound), chain_tells _ J.chain)

-- nothing is known
pub none_lasts : {k : Checked} {w : Words} {c : Counts} → Lasting (record { checked = k; lasting = false }) w c
none_lasts = record { checked = λ e. absurd (false≢true e); is_sound = λ e. absurd (false≢true e); chained = λ e. absurd (false≢true e) }

-- tables that the check found sound
pub found_sound : (w : Words) (c : Counts) {k : Checked} → k ≡ checked_of w c → not k.sound ≡ false → sound w c ≡ true
found_sound w c {k} e h = sym (ap (λ (x : Checked). x.sound) e) ∙ not-false k.sound h

-- what is known of tables that the check found sound, and whether they are chained
pub newly_lasts : (w : Words) (c : Counts) {k : Checked} {b : Bool} → k ≡ checked_of w c → not k.sound ≡ false → b ≡ is_chained (load w c)
    → Lasting (record { checked = k; lasting = b }) w c
newly_lasts w c e h q = record { checked = λ l. e; is_sound = λ l. found_sound w c e h; chained = λ l. sym q ∙ l }

-- the check's answer of runs as long as these
same_checked : (v w : Words) (c d : Counts) → SameLengths v w → sound v c ≡ true → sound w d ≡ true → checked_of v c ≡ checked_of w d
same_checked v w c d l h g =
    let r : capacity w ≡ capacity v = capacity_same w v (record {
      snapshots = as_long 0 l;
      schemas = as_long 1 l;
      schema_names = as_long 2 l;
      tables = as_long 3 l;
      table_names = as_long 4 l;
      columns = as_long 5 l;
      column_names = as_long 6 l;
      data_files = as_long 7 l;
      delete_files = as_long 8 l;
      positions = as_long 9 l;
      statistics = as_long 10 l;
      scheduled = as_long 11 l;
    }) in
    λ i. record { sound = (h ∙ sym g) i; room = sym r i }

-- what lasts, after a record more
pub lasts : (x : Asked) (w : Words) (c : Counts) (area : List ℕ) {o : Outcome} {w' : Words} {b : List ℕ} → Promise (perform_asked x w c area) o w' b → SameLengths w w'
    → {j : Judged} → Lasting j w c → Lasting j w' o.counts
lasts x w c area {o} {w'} p l {j} L = record {
  checked = λ e. L.checked e ∙ same_checked w w' c o.counts l (L.is_sound e) (still_sound e);
  is_sound = still_sound;
  chained = λ e. ap is_chained (ap₂ load p.words p.counts) ∙ (stays x w c area (L.is_sound e) (L.chained e)).1;
}
  where
    still_sound : j.lasting ≡ true → sound w' o.counts ≡ true
    still_sound e = ap₂ sound p.words p.counts ∙ (stays x w c area (L.is_sound e) (L.chained e)).0
