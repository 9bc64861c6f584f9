-- What the program prints is the listing of what the session leaves, and that is document 01's three lines, byte for byte: by computation, with every
-- definition open.
use Prim.Native.Nat.{ℕ, ◌+◌, ◌≤◌}
use mathlib.Core.Path.{◌≡◌, refl, ap, ap₂}
use mathlib.Core.Bool.{true}
use mathlib.Core.List.{List, [], ◌∷◌, ◌++◌}
use native.Mathlib.Omega.{arith}
use lib.Dec.{eqb}
use lib.ListN.{length}
use borrow.Author.Tests.{eqb-true}
use Rattle.lists.specs.Lists.{agree}
use Rattle.lists.proofs.Tests.{both, clash}
use Rattle.layout.specs.declared.outcome.Outcome.{Outcome}
use Rattle.layout.specs.Words.{Words}
use Rattle.ducklake.specs.Calls.{Promise, no_counts}
use Rattle.ducklake.specs.Paths.{path, uuid_text}
use Rattle.ducklake.proofs.cases.Sessions.{passes}
use Rattle.paths.specs.Text.{Written}
use Rattle.paths.specs.Lengths.{path_length}
use Rattle.paths.proofs.Pieces.{written_length}
use Rattle.diary_session.specs.Session.{begun, ended, played}
use Rattle.diary_session.specs.Listing.{record_of, path_of, delete_path_of, line, lines, listing}
use Rattle.diary_session.specs.Room.{Room}
use Rattle.diary_session.specs.Program.{zeros, zero_tables, diary_text}

-- ducklake-00000000-0000-0000-0000-00000000000N.parquet, for the digit N
pub ducklake : ℕ → List ℕ
ducklake n =
    100 ∷ 117 ∷ 99 ∷ 107 ∷ 108 ∷ 97 ∷ 107 ∷ 101 ∷ 45
    ∷ 48 ∷ 48 ∷ 48 ∷ 48 ∷ 48 ∷ 48 ∷ 48 ∷ 48 ∷ 45 ∷ 48 ∷ 48 ∷ 48 ∷ 48 ∷ 45 ∷ 48 ∷ 48 ∷ 48 ∷ 48 ∷ 45 ∷ 48 ∷ 48 ∷ 48 ∷ 48 ∷ 45
    ∷ 48 ∷ 48 ∷ 48 ∷ 48 ∷ 48 ∷ 48 ∷ 48 ∷ 48 ∷ 48 ∷ 48 ∷ 48 ∷ (48 + n)
    ∷ 46 ∷ 112 ∷ 97 ∷ 114 ∷ 113 ∷ 117 ∷ 101 ∷ 116 ∷ []

-- a header line; file 0 with delete file 3; file 1, without one
pub three_lines : List ℕ
three_lines =
    100 ∷ 97 ∷ 116 ∷ 97 ∷ 95 ∷ 102 ∷ 105 ∷ 108 ∷ 101 ∷ 44 ∷ 100 ∷ 101 ∷ 108 ∷ 101 ∷ 116 ∷ 101 ∷ 95 ∷ 102 ∷ 105 ∷ 108 ∷ 101 ∷ 10 ∷ []
    ++ ducklake 1 ++ (44 ∷ []) ++ ducklake 4 ++ (10 ∷ [])
    ++ ducklake 2 ++ (44 ∷ []) ++ (10 ∷ [])

computed : agree eqb diary_text three_lines ≡ true
unfolding diary_text listing lines line delete_path_of path_of record_of begun ended played passes path uuid_text ducklake three_lines
computed = refl

-- lists whose numbers are equal, place by place, are equal
same_numbers : (xs ys : List ℕ) → agree eqb xs ys ≡ true → xs ≡ ys
unfolding agree
same_numbers [] [] h = refl
same_numbers [] (y ∷ ys) h = clash h refl
same_numbers (x ∷ xs) [] h = clash h refl
same_numbers (x ∷ xs) (y ∷ ys) h = let k = both (eqb x y) (agree eqb xs ys) h in ap₂ ◌∷◌ (eqb-true x y k.0) (same_numbers xs ys k.1)

pub printed : diary_text ≡ three_lines
printed = same_numbers diary_text three_lines computed

-- the header line, a line with two paths, a line with one
abbrev pub text_length : ℕ
text_length = 22 + (path_length + 1 + path_length + 1) + (path_length + 1 + 1)

text_length_lem : length diary_text ≡ text_length
unfolding ducklake three_lines
text_length_lem = ap length printed

module _ {t : List ℕ} (h : text_length ≤ length t) where
  pub text_fits : Room t 0 diary_text
  text_fits = record { fits = omega (arith, text_length_lem, h) }

  pub text_ends : {t' : List ℕ} {r : ℕ} → Written t 0 diary_text t' r → r ≤ length t'
  text_ends p = omega (arith, text_fits.fits, written_length p text_fits.fits, p.end)

-- The program: it lists what the session left
module _ {o : Outcome} {w : Words} {area : List ℕ} (p : Promise (played zero_tables no_counts (zeros 1)) o w area) where
  text_is : diary_text ≡ listing w o.counts area
  unfolding diary_text
  text_is = rw (p.words, p.counts, p.area) refl

  pub listing_fits : {t : List ℕ} → Room t 0 diary_text → Room t 0 (listing w o.counts area)
  listing_fits h = rw text_is at h

  pub text_written : {t t' : List ℕ} {r : ℕ} → Written t 0 (listing w o.counts area) t' r → Written t 0 diary_text t' r
  text_written q = rw text_is q
