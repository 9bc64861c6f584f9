-- The lines of a file list, and what each is written from: a file's path from the record that the lookup gives, a line from its parts, the list from its lines.
use Prim.Native.Nat.{ℕ, ◌+◌, ◌≤◌, ◌<◌}
use mathlib.Core.Path.{◌≡◌, refl, sym, ap, ◌∙◌}
use mathlib.Core.Bool.{cond}
use mathlib.Core.List.{List, [], ◌∷◌, ◌++◌, append_assoc}
use native.Mathlib.Omega.{arith}
use lib.Dec.{eqb}
use lib.ListN.{length, get_or, take, drop, replicate, length-append, length-drop}
use borrow.Author.Tests.{ne_eqb}
use Rattle.lists.specs.Runs.{at, overwrite}
use Rattle.lists.proofs.Runs.{overwrite_over}
use Rattle.lists.proofs.Tests.{if}
use Rattle.lists.proofs.Windows.{rest_step}
use Rattle.layout.specs.declared.outcome.Counts.{Counts}
use Rattle.layout.specs.declared.outcome.Outcome.{Outcome}
use Rattle.layout.specs.Fields.{data_file_size}
use Rattle.layout.specs.Records.{data_file_layout}
use Rattle.layout.specs.Catalog.{absent}
use Rattle.layout.specs.Words.{Words}
use Rattle.ducklake.specs.Calls.{Promise}
use Rattle.ducklake.specs.Lookup.{perform_lookup}
use Rattle.ducklake.specs.Paths.{path}
use Rattle.paths.specs.Text.{Written}
use Rattle.paths.specs.Lengths.{path_length}
use Rattle.paths.proofs.Lengths.{path_length_lem}
use Rattle.paths.proofs.Pieces.{written_length, written_none, written_then}
use Rattle.diary_session.specs.Listing.{header, comma, line_feed, record_of, path_of, delete_path_of, line, lines, files_at_five, listing}
use Rattle.diary_session.specs.Room.{Room}

-- A loop that writes piece after piece: what is still to be written, and where

pub record StillToWrite (t₀ : List ℕ) (a₀ : ℕ) (new₀ t : List ℕ) (a : ℕ) (new : List ℕ) : Type 0 where
  pub bytes : overwrite t₀ a₀ new₀ ≡ overwrite t a new
  pub end : a₀ + length new₀ ≡ a + length new

pub piece_next : {t₀ new₀ t t' x new new' : List ℕ} {a₀ a a' : ℕ} → StillToWrite t₀ a₀ new₀ t a new → new ≡ x ++ new' → Room t a x
    → Written t a x t' a' → StillToWrite t₀ a₀ new₀ t' a' new'
piece_next {t = t} {x = x} {new' = new'} {a = a} s e h p = record {
  bytes = s.bytes ∙ rw (e, p.bytes, p.end) (overwrite_over t a x new' (omega (arith, h.fits)));
  end = s.end ∙ rw (e, p.end, length-append) (omega arith);
}

pub pieces_done : {t₀ new₀ t new : List ℕ} {a₀ a : ℕ} → StillToWrite t₀ a₀ new₀ t a new → new ≡ [] → Written t₀ a₀ new₀ t a
pieces_done {t = t} {a = a} s e = record {
  bytes = sym (s.bytes ∙ rw e (sym (written_none t a).bytes));
  end = sym (s.end ∙ rw e (omega arith));
}

grouped : (a b c d : List ℕ) → ((a ++ b) ++ c) ++ d ≡ a ++ b ++ c ++ d
grouped a b c d = simp append_assoc

module _ (w : Words) (c : Counts) where
  -- The path of a file

  pub path_of_length : (id : ℕ) → length (path_of w c id) ≡ path_length
  unfolding path_of
  path_of_length id = path_length_lem (at data_file_layout (record_of w c id) 0).uuid

  pub path_written : (id : ℕ) {t t' found : List ℕ} {a r : ℕ} {o : Outcome} {w' : Words} → Promise (perform_lookup id w c (replicate data_file_size 0)) o w' found
      → Written t a (path (at data_file_layout found 0).uuid) t' r → Written t a (path_of w c id) t' r
  unfolding path_of record_of
  path_written id p q = rw p.area at q

  -- "or nothing"

  nothing : {id : ℕ} → id ≡ absent → delete_path_of w c id ≡ []
  unfolding delete_path_of
  nothing e = rw e refl

  something : {id : ℕ} → (id ≡ absent → ⊥) → delete_path_of w c id ≡ path_of w c id
  unfolding delete_path_of
  something {id} h = rw (ne_eqb id absent h) refl

  pub nothing_written : {id : ℕ} (t : List ℕ) (a : ℕ) → id ≡ absent → Written t a (delete_path_of w c id) t a
  nothing_written t a e = rw (nothing e) (written_none t a)

  pub delete_path_room : {id a : ℕ} {t : List ℕ} → (id ≡ absent → ⊥) → Room t a (delete_path_of w c id) → a + path_length ≤ length t
  delete_path_room {id} h l = omega (arith, l.fits, ap length (something h), path_of_length id)

  pub delete_path_written : {id : ℕ} {t t' : List ℕ} {a r : ℕ} → (id ≡ absent → ⊥) → Written t a (path_of w c id) t' r → Written t a (delete_path_of w c id) t' r
  delete_path_written h q = rw (something h) q

  -- A line

  line_length : (f d : ℕ) → length (line w c f d) ≡ path_length + 1 + length (delete_path_of w c d) + 1
  unfolding line
  line_length f d = simp (length-append, path_of_length) (omega arith)

  module _ (f d : ℕ) {t : List ℕ} {a : ℕ} (h : Room t a (line w c f d)) where
    pub line_room : a + path_length + 1 + length (delete_path_of w c d) + 1 ≤ length t
    line_room = omega (arith, h.fits, line_length f d)

    module _ {t₁ : List ℕ} {a₁ : ℕ} (p : Written t a (path_of w c f) t₁ a₁) where
      path_kept : length t₁ ≡ length t
      path_kept = written_length p (omega (arith, line_room, path_of_length f))

      pub comma_room : a₁ + 1 ≤ length t₁
      comma_room = omega (arith, line_room, path_kept, p.end, path_of_length f)

      module _ {t₂ : List ℕ} {a₂ : ℕ} (q : Written t₁ a₁ comma t₂ a₂) where
        comma_kept : length t₂ ≡ length t
        comma_kept = written_length q comma_room ∙ path_kept

        pub delete_room : Room t₂ a₂ (delete_path_of w c d)
        delete_room = record { fits = omega (arith, line_room, comma_kept, p.end, q.end, path_of_length f) }

        module _ {t₃ : List ℕ} {a₃ : ℕ} (r : Written t₂ a₂ (delete_path_of w c d) t₃ a₃) where
          pub line_feed_room : a₃ + 1 ≤ length t₃
          line_feed_room = omega (arith, line_room, written_length r delete_room.fits, comma_kept, p.end, q.end, r.end, path_of_length f)

          pub line_written : {t₄ : List ℕ} {a₄ : ℕ} → Written t₃ a₃ line_feed t₄ a₄ → Written t a (line w c f d) t₄ a₄
          unfolding line
          line_written s =
              let l : a ≤ length t = omega (arith, line_room) in
              rw (grouped (path_of w c f) comma (delete_path_of w c d) line_feed) at (written_then (written_then (written_then p q l) r l) s l)

  delete_path_length : (d : ℕ) → length (delete_path_of w c d) ≡ cond (eqb d absent) 0 path_length
  unfolding delete_path_of
  delete_path_length d = if (eqb d absent) (λ e. rw e refl) (λ e. rw e (path_of_length d))

  -- The lines of a file list

  lines_short : (xs : List ℕ) → length xs ≤ 1 → lines w c xs ≡ []
  unfolding lines
  lines_short [] h = refl
  lines_short (x ∷ []) h = refl
  lines_short (x ∷ (y ∷ xs)) h = absurd (omega arith)

  pub lines_end : (xs : List ℕ) (k : ℕ) → length xs ≤ k + 1 → lines w c (drop k xs) ≡ []
  lines_end xs k h = lines_short (drop k xs) (rw length-drop (omega arith))

  pub lines_next : (xs : List ℕ) (k : ℕ) → k + 1 < length xs → lines w c (drop k xs) ≡ line w c (get_or xs k 0) (get_or xs (k + 1) 0) ++ lines w c (drop (k + 2) xs)
  unfolding lines
  lines_next xs k h =
      let e : k + 1 + 1 ≡ k + 2 = omega arith in
      rw (rest_step 0 xs k (omega arith), rest_step 0 xs (k + 1) h, e) refl

  pub line_fits : {t₀ new₀ t : List ℕ} {a₀ a : ℕ} (xs : List ℕ) (k : ℕ) → Room t₀ a₀ new₀ → StillToWrite t₀ a₀ new₀ t a (lines w c (drop k xs)) → length t ≡ length t₀
      → k + 1 < length xs → Room t a (line w c (get_or xs k 0) (get_or xs (k + 1) 0))
  line_fits xs k h s l e = record {
    fits = omega (arith, h.fits, s.end, ap length (lines_next xs k e), length-append (line w c (get_or xs k 0) (get_or xs (k + 1) 0)) (lines w c (drop (k + 2) xs)));
  }

-- Lines of the same files are equally long in any tables: a path has the same length always
same_length : (v w : Words) (c : Counts) (xs : List ℕ) → length (lines v c xs) ≡ length (lines w c xs)
unfolding lines
same_length v w c [] = refl
same_length v w c (f ∷ []) = refl
same_length v w c (f ∷ (d ∷ xs)) =
    let l = length-append (line v c f d) (lines v c xs) in
    let r = length-append (line w c f d) (lines w c xs) in
    omega (arith, l, r, line_length v c f d, line_length w c f d, delete_path_length v c d, delete_path_length w c d, same_length v w c xs)

-- The whole text

module _ (w : Words) (c : Counts) (area : List ℕ) {t : List ℕ} (h : Room t 0 (listing w c area)) {o : Outcome} {w' : Words} {area' : List ℕ} (p : Promise (files_at_five w c area) o w' area') where
  listing_is : listing w c area ≡ (header ++ line_feed) ++ lines w c (take o.length area')
  unfolding listing
  listing_is = rw (p.length, p.area) refl

  listing_room : length (header ++ line_feed) + length (lines w c (take o.length area')) ≤ length t
  listing_room = omega (arith, h.fits, ap length listing_is, length-append (header ++ line_feed) (lines w c (take o.length area')))

  pub header_room : 0 + length (header ++ line_feed) ≤ length t
  header_room = omega (arith, listing_room)

  module _ {t₁ : List ℕ} {a₁ : ℕ} (q : Written t 0 (header ++ line_feed) t₁ a₁) where
    pub lines_room : (v : Words) → Room t₁ a₁ (lines v c (take o.length area'))
    lines_room v = record { fits = omega (arith, listing_room, written_length q header_room, q.end, same_length v w c (take o.length area')) }

    pub listing_written : {t₂ : List ℕ} {a₂ : ℕ} → Written t₁ a₁ (lines w c (take o.length area')) t₂ a₂ → Written t 0 (listing w c area) t₂ a₂
    listing_written r = rw listing_is (written_then q r (omega arith))
