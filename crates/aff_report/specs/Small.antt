-- A small report, and its text line by line.
use Rattle.std.specs.Prelude.{ℕ, ◌*◌, true, List, [], ◌∷◌, ◌++◌, replicate, codes}
use Rattle.aff_model.specs.declared.cell.Kind.TheVariants.{Known, Unreadable, Unknown}
use Rattle.aff_model.specs.declared.publication.Place.TheVariants.{Zero, Chunk, Nothing}
use Rattle.aff_model.specs.History.{Published}
use Rattle.aff_script.specs.Answered.{Answered}
use Rattle.aff_report.specs.Reported.{Reported}

-- an extent of four chunks, with three unreadable sectors
abbrev pub swept_extent : Published
swept_extent = record { extent = 0; claimant = 3; swept = true; bad = 1 ∷ 2 ∷ 4 ∷ []; places = Chunk 0 ∷ Chunk 1 ∷ Zero ∷ Nothing ∷ [] }

-- an answer with a run of each kind
abbrev pub answer : Answered
answer = record {
  at = 0;
  len = 4;
  front = 1;
  runs =
      record { at = 0; len = 2; kind = Known; sha256 = replicate 32 255 }
      ∷ record { at = 2; len = 1; kind = Unreadable; sha256 = replicate 32 0 }
      ∷ record { at = 3; len = 1; kind = Unknown; sha256 = replicate 32 0 }
      ∷ [];
}

abbrev pub small : Reported
small = record {
  uuid = codes "u";
  size = 9;
  extents = 2;
  history = swept_extent ∷ [];
  sessions = (answer ∷ []) ∷ [] ∷ [];
  findings = codes "none" ∷ [];
  linear = record { md5 = replicate 16 0; sha1 = replicate 20 0; sha256 = replicate 32 0; sha512 = replicate 64 0 };
  block_map = replicate 64 0;
}

-- so many zeros in hexadecimal digits
abbrev pub zeros : ℕ → List ℕ
zeros n = replicate (2 * n) 48

abbrev pub small_text : List ℕ
small_text =
    codes "volume aff4://u\nsize 9\nextents 2\npublications 1\npublication 1 0 3 swept 1+2,4+1 c0+2,z1,n1\n"
    ++ (codes "session 1\nread 0 4 1\nknown 0 2 ffffffffffffffffffffffffffffffffffffffffffffffffffffffffffffffff\nunreadable 2 1\nunknown 3 1\nsession 2\nexaminer 1 none\n"
    ++ (codes "md5 " ++ (zeros 16 ++ (codes "\nsha1 " ++ (zeros 20 ++ (codes "\nsha256 " ++ (zeros 32 ++ (codes "\nsha512 " ++ (zeros 64
    ++ (codes "\nblockmap " ++ (zeros 64 ++ codes "\n")))))))))))
