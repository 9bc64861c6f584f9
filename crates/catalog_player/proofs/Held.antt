-- What the loop over a list holds, before the first record, and from record to record.
use Prim.Native.Nat.{ℕ, ◌+◌, ◌-◌, ◌*◌, ◌≤◌, ◌<◌}
use mathlib.Core.Path.{◌≡◌, refl, ap, ap₂, ◌∙◌}
use mathlib.Core.List.{List, [], ◌∷◌, map}
use native.Mathlib.Omega.{arith}
use lib.ListN.{length, get_or, take, drop}
use borrow.Rule.Slice.PartMut.{put_mid, same_len_mid}
use Rattle.lists.specs.Runs.{overwrite}
use Rattle.layout.specs.declared.outcome.Counts.{Counts}
use Rattle.layout.specs.declared.outcome.Outcome.{Outcome}
use Rattle.layout.specs.Words.{Words}
use Rattle.ducklake.specs.Calls.{Promise}
use Rattle.call_lists.specs.declared.record.CallRecord.{CallRecord}
use Rattle.call_lists.specs.Records.{call_at}
use Rattle.call_lists.specs.Calls.{perform_asked, asked_of}
use Rattle.call_lists.specs.Playing.{told_size, told_words}
use Rattle.call_lists.proofs.KindLaws.{promise_of}
use Rattle.call_lists.proofs.Sessions.{Playing, playing_start, playing_next}

-- the lengths of the runs, in the order of the parameters
abbrev lengths : Words → List ℕ
lengths w =
    map length
    (w.snapshots
    ∷ w.schemas
    ∷ w.schema_names
    ∷ w.tables
    ∷ w.table_names
    ∷ w.columns
    ∷ w.column_names
    ∷ w.data_files
    ∷ w.delete_files
    ∷ w.positions
    ∷ w.statistics
    ∷ w.scheduled
    ∷ [])

-- the runs of w' are as long as those of w
pub record SameLengths (w w' : Words) : Type 0 where
  pub same : lengths w' ≡ lengths w

-- the run at the place k of that order
pub as_long : (k : ℕ) {w w' : Words} → SameLengths w w' → get_or (lengths w') k 0 ≡ get_or (lengths w) k 0
as_long k s = ap (λ (l : List ℕ). get_or l k 0) s.same

-- the same as a function says it that is lent the runs: an equation for each, one after another, and then R, what it says besides
abbrev pub Kept : List ℕ → List ℕ → Type 0 → Type 0
Kept [] l R = R
Kept (m ∷ ms) [] R = R
Kept (m ∷ ms) (n ∷ ns) R = (n ≡ m) × Kept ms ns R

kept_all : (ms ns : List ℕ) (R : Type 0) → length ns ≡ length ms → Kept ms ns R → ns ≡ ms
kept_all [] [] R e k = refl
kept_all [] (n ∷ ns) R e k = absurd (omega (arith, e))
kept_all (m ∷ ms) [] R e k = absurd (omega (arith, e))
kept_all (m ∷ ms) (n ∷ ns) R e k = ap₂ ◌∷◌ k.0 (kept_all ms ns R (omega (arith, e)) k.1)

pub lengths_kept : (w w' : Words) (R : Type 0) → Kept (lengths w) (lengths w') R → SameLengths w w'
lengths_kept w w' R k = record { same = kept_all (lengths w) (lengths w') R refl k }

module _ (calls lists names : List ℕ) (w : Words) (c : Counts) (a t : List ℕ) where
  -- after i of n records
  pub record Held (n i : ℕ) (w' : Words) (c' : Counts) (a' : List ℕ) (k : ℕ) (t' : List ℕ) : Type 0 where
    pub some : i ≤ n
    pub runs : SameLengths w w'
    pub area : length a' ≡ length a
    pub told : length t' ≡ length t
    pub playing : Playing calls lists names w c a t i w' c' a' k t'

  pub held_start : (n : ℕ) → Held n 0 w c a 0 t
  held_start n = record { some = omega arith; runs = record { same = refl }; area = refl; told = refl; playing = playing_start calls lists names w c a t }

  pub held_next : {n i : ℕ} {w₁ : Words} {c₁ : Counts} {a₁ : List ℕ} {k : ℕ} {t₁ : List ℕ} → Held n i w₁ c₁ a₁ k t₁ → i < n → told_size * n ≤ length t
      → {r : CallRecord} → r ≡ call_at calls i → {o : Outcome} {w₂ : Words} {b t₂ : List ℕ}
      → Promise (perform_asked (asked_of lists names r) w₁ c₁ (take (length a₁ - k) (drop k a₁))) o w₂ b → SameLengths w₁ w₂
      → length b ≡ length (take (length a₁ - k) (drop k a₁)) → t₂ ≡ overwrite t₁ (told_size * i) (told_words o) → length t₂ ≡ length t₁
      → Held n (i + 1) w₂ o.counts (put_mid k (length a₁ - k) a₁ b) (k + o.length) t₂
  held_next {n} {i} {w₁} {c₁} {a₁} {k} H l m q {b} p s e u v = record {
    some = omega (arith, l);
    runs = record { same = s.same ∙ H.runs.same };
    area = same_len_mid k (length a₁ - k) a₁ b e ∙ H.area;
    told = v ∙ H.told;
    playing = playing_next calls lists names w c a t i H.playing (omega (arith, l, m, H.told))
        (promise_of w₁ c₁ (take (length a₁ - k) (drop k a₁)) (ap (asked_of lists names) q) p) e u;
  }
