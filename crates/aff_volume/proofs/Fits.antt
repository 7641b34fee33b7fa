-- Metadata fit: their sizes are small, and their gap is a symbolic stream.
use Rattle.std.proofs.Common.{◌≡◌, ℕ, ◌≤◌, nat_le, Bool, true, false, cond, ◌&&◌, List, [], ◌∷◌, ◌++◌, take, drop, take-append-drop, codes, Option, Some, None, Result, Ok, Err, refl, sym, ap, subst, ◌∙◌, arith}
use Rattle.std.specs.Prelude.{filter, IfSome}
use Rattle.std.specs.Str.{bytes_eq}
use Rattle.std.proofs.lemmas.Bool.Decides.{nat_tests}
use Rattle.std.proofs.lemmas.Slice.Eq.{bytes_eq-Decides}
use Rattle.aff_model.specs.declared.limits.TheConstants.{MAX_SIZE}
use Rattle.aff_names.specs.Urn.{HasScheme}
use Rattle.aff_spec.specs.Words.{is_uuid}
use Rattle.aff_map.specs.declared.target.Target.{Target}
use Rattle.aff_map.specs.declared.target.Target.TheVariants as targets
use Rattle.aff_map.specs.Symbol.{IsSymbolic}
use Rattle.aff_turtle.specs.Triples.{Term, Resource, Literal, Fact}
use Rattle.aff_info.specs.Schema.{chunk_size, chunks_in_segment, largest_size, sha512_type, zero_data, unknown_data, unreadable_data}
use Rattle.aff_info.specs.Table.{names, fits, has_type}
use Rattle.aff_info.specs.Values.{gap_of, stated_number}
use Rattle.aff_info.specs.Statements.{One, Missing, Only, Twice, one_of}
use Rattle.aff_info.specs.Accept.{is_path, is_urn, passes, needs, only_if, urn_in, urn_named, size_of, needs_number, needs_urn, needs_method, digest_in, accepted}
use Rattle.aff_info.specs.Faults.{InfoFault, and_then}
use Rattle.aff_info.specs.Found.{Found}
use Rattle.aff_info.specs.Reading.{nothing, stated, runs, with_urns, IsInfo}
use Rattle.aff_info.specs.declared.draft.PartialInfo.{PartialInfo}
use Rattle.aff_info.specs.declared.info.Info.{Info}
use Rattle.aff_info.specs.declared.name.InfoName.{InfoName}
use Rattle.aff_info.specs.declared.name.InfoName.TheVariants.{Stream, StreamSize, ChunkSize, ChunksInSegment, Method, StreamStored, Image, ImageSize, Dependent, Gap, ImageStored, Md5, Sha1, Sha256, Sha512, BlockMap}
use Rattle.aff_volume.specs.Opened.{IsFit}

record Fits (d : PartialInfo) : Type 0 where
  stream : IfSome d.stream HasScheme
  stream_size : d.stream_size ≤ MAX_SIZE
  image_size : d.image_size ≤ MAX_SIZE
  gap : IsSymbolic d.gap

abbrev drafted : PartialInfo → Result PartialInfo InfoFault
drafted d = Ok d

moved : (d new : PartialInfo) → Fits d → drafted d ≡ Ok new → Fits new
moved d new f h = let same : d ≡ new = cc in subst Fits same f

then_ok : {A : Type 0} (o : Result A InfoFault) (f : A → Result PartialInfo InfoFault) (new : PartialInfo) → and_then o f ≡ Ok new → (x : A) × (o ≡ Ok x) × (f x ≡ Ok new)
then_ok (Ok x) f new h = (x, refl, h)
then_ok (Err e) f new h = absurd cc

small : (name : InfoName) (o : Term) (n : ℕ) → size_of name o ≡ Ok n → n ≤ MAX_SIZE
small name o n h = below (needs name (stated_number o)) h
  where
    tested : (b : Bool) (m : ℕ) → nat_le m largest_size ≡ b → only_if name b m ≡ Ok n → n ≤ MAX_SIZE
    tested true m t e = let same : m ≡ n = cc in subst (λ k. k ≤ MAX_SIZE) same (grind (arith, nat_tests, t))
    tested false m t e = absurd cc

    below : (r : Result ℕ InfoFault) → and_then r (λ m. only_if name (nat_le m largest_size) m) ≡ Ok n → n ≤ MAX_SIZE
    below (Ok m) e = tested (nat_le m largest_size) m refl e
    below (Err f) e = absurd cc

symbolic : (o : Term) (t : Target) → needs Gap (gap_of o) ≡ Ok t → IsSymbolic t
symbolic (Literal text datatype lang) t h = absurd cc
symbolic (Resource iri) t h = by_tests (bytes_eq iri zero_data) (bytes_eq iri unknown_data) (bytes_eq iri unreadable_data) h
  where
    by_tests : (a b c : Bool) → needs Gap (cond a (Some targets.Zero) (cond b (Some targets.Unknown) (cond c (Some targets.Unreadable) None))) ≡ Ok t → IsSymbolic t
    by_tests true b c e = let same : targets.Zero ≡ t = cc in subst IsSymbolic same tt
    by_tests false true c e = let same : targets.Unknown ≡ t = cc in subst IsSymbolic same tt
    by_tests false false true e = let same : targets.Unreadable ≡ t = cc in subst IsSymbolic same tt
    by_tests false false false e = absurd cc

has_scheme : (name : InfoName) (text urn : List ℕ) → urn_in name text ≡ Ok urn → HasScheme urn
unfolding is_urn
has_scheme name text urn h = tested (bytes_eq (take 7 text) (codes "aff4://")) (is_uuid (take 36 (drop 7 text))) (is_path (drop 43 text)) refl h
  where
    tested : (a b c : Bool) → bytes_eq (take 7 text) (codes "aff4://") ≡ a → only_if name ((a && b) && c) text ≡ Ok urn → HasScheme urn
    tested true true true is e =
        let same : text ≡ urn = cc in
        let front : take 7 text ≡ codes "aff4://" = (bytes_eq-Decides (take 7 text) (codes "aff4://")).0 is in
        subst HasScheme same (record { rest = drop 7 text; is = sym (take-append-drop 7 text) ∙ ap (λ l. l ++ drop 7 text) front })
    tested true true false is e = absurd cc
    tested true false c is e = absurd cc
    tested false b c is e = absurd cc

fits-accepted : (n : InfoName) (t : Fact) (d new : PartialInfo) → Fits d → accepted n t d ≡ Ok new → Fits new
fits-accepted Stream t d new f h =
    let k = then_ok (urn_in Stream t.subject) (λ urn. Ok (record d { stream = Some urn })) new h in
    moved _ new (record { stream = has_scheme Stream t.subject k.0 k.1; stream_size = f.stream_size; image_size = f.image_size; gap = f.gap }) k.2
fits-accepted Image t d new f h =
    let k = then_ok (urn_in Image t.subject) (λ urn. Ok (record d { image = Some urn })) new h in
    moved _ new (record { stream = f.stream; stream_size = f.stream_size; image_size = f.image_size; gap = f.gap }) k.2
fits-accepted StreamSize t d new f h =
    let k = then_ok (size_of StreamSize t.object) (λ n. Ok (record d { stream_size = n })) new h in
    moved _ new (record { stream = f.stream; stream_size = small StreamSize t.object k.0 k.1; image_size = f.image_size; gap = f.gap }) k.2
fits-accepted ImageSize t d new f h =
    let k = then_ok (size_of ImageSize t.object) (λ n. Ok (record d { image_size = n })) new h in
    moved _ new (record { stream = f.stream; stream_size = f.stream_size; image_size = small ImageSize t.object k.0 k.1; gap = f.gap }) k.2
fits-accepted ChunkSize t d new f h =
    let k = then_ok (needs_number ChunkSize chunk_size t.object) (λ _. Ok d) new h in
    moved d new f k.2
fits-accepted ChunksInSegment t d new f h =
    let k = then_ok (needs_number ChunksInSegment chunks_in_segment t.object) (λ _. Ok d) new h in
    moved d new f k.2
fits-accepted Method t d new f h =
    let k = then_ok (needs_method t.object) (λ _. Ok d) new h in
    moved d new f k.2
fits-accepted StreamStored t d new f h =
    let k = then_ok (urn_named StreamStored t.object) (λ urn. Ok (record d { volume = Some urn })) new h in
    moved _ new (record { stream = f.stream; stream_size = f.stream_size; image_size = f.image_size; gap = f.gap }) k.2
fits-accepted ImageStored t d new f h =
    let k = then_ok (needs_urn ImageStored d.volume t.object) (λ _. Ok d) new h in
    moved d new f k.2
fits-accepted Dependent t d new f h =
    let k = then_ok (needs_urn Dependent d.stream t.object) (λ _. Ok d) new h in
    moved d new f k.2
fits-accepted Gap t d new f h =
    let k = then_ok (needs Gap (gap_of t.object)) (λ gap. Ok (record d { gap = gap })) new h in
    moved _ new (record { stream = f.stream; stream_size = f.stream_size; image_size = f.image_size; gap = symbolic t.object k.0 k.1 }) k.2
fits-accepted Md5 t d new f h =
    let k = then_ok (digest_in Md5 16 t.object) (λ bytes. Ok (record d { linear = record d.linear { md5 = bytes } })) new h in
    moved _ new (record { stream = f.stream; stream_size = f.stream_size; image_size = f.image_size; gap = f.gap }) k.2
fits-accepted Sha1 t d new f h =
    let k = then_ok (digest_in Sha1 20 t.object) (λ bytes. Ok (record d { linear = record d.linear { sha1 = bytes } })) new h in
    moved _ new (record { stream = f.stream; stream_size = f.stream_size; image_size = f.image_size; gap = f.gap }) k.2
fits-accepted Sha256 t d new f h =
    let k = then_ok (digest_in Sha256 32 t.object) (λ bytes. Ok (record d { linear = record d.linear { sha256 = bytes } })) new h in
    moved _ new (record { stream = f.stream; stream_size = f.stream_size; image_size = f.image_size; gap = f.gap }) k.2
fits-accepted Sha512 t d new f h =
    let k = then_ok (digest_in Sha512 64 t.object) (λ bytes. Ok (record d { linear = record d.linear { sha512 = bytes } })) new h in
    moved _ new (record { stream = f.stream; stream_size = f.stream_size; image_size = f.image_size; gap = f.gap }) k.2
fits-accepted BlockMap t d new f h =
    let k = then_ok (passes BlockMap (has_type t.object sha512_type)) (λ _. and_then (digest_in BlockMap 64 t.object) (λ bytes. Ok (record d { block_map = bytes }))) new h in
    let l = then_ok (digest_in BlockMap 64 t.object) (λ bytes. Ok (record d { block_map = bytes })) new k.2 in
    moved _ new (record { stream = f.stream; stream_size = f.stream_size; image_size = f.image_size; gap = f.gap }) l.2

fits-stated : (n : InfoName) (o : One) (d new : PartialInfo) → Fits d → stated n o d ≡ Ok new → Fits new
fits-stated n Missing d new f h = absurd cc
fits-stated n Twice d new f h = absurd cc
fits-stated n (Only t) d new f h = fits-accepted n t d new f h

fits-runs : (ns : List InfoName) (facts : List Fact) (d new : PartialInfo) → Fits d → runs ns facts d ≡ Ok new → Fits new
unfolding runs
fits-runs [] facts d new f h = moved d new f h
fits-runs (n ∷ ns) facts d new f h =
    let k = then_ok (stated n (one_of (filter (fits n d) facts)) d) (runs ns facts) new h in
    fits-runs ns facts k.0 new (fits-stated n (one_of (filter (fits n d) facts)) d k.0 f k.1) k.2

fits-nothing : Fits nothing
fits-nothing = record { stream = tt; stream_size = omega arith; image_size = omega arith; gap = tt }

same_info : (made info : Info) → IsFit made → Some made ≡ Some info → IsFit info
same_info made info f e = let same : made ≡ info = cc in subst IsFit same f

fits-urns : (d : PartialInfo) (v s i : Option (List ℕ)) (info : Info) → Fits d → IfSome s HasScheme → with_urns d v s i ≡ Some info → IsFit info
fits-urns d (Some v) (Some s) (Some i) info f scheme h = same_info _ info (record { stream = scheme; stream_size = f.stream_size; image_size = f.image_size; gap = f.gap }) h
fits-urns d None s i info f scheme h = absurd cc
fits-urns d (Some v) None i info f scheme h = absurd cc
fits-urns d (Some v) (Some s) None info f scheme h = absurd cc

-- what triples state is fit
pub info_fits : (facts : List Fact) (found : Found) → IsInfo facts found → IsFit found.info
info_fits facts found is =
    let f = fits-runs names facts nothing is.draft fits-nothing is.read in
    fits-urns is.draft is.draft.volume is.draft.stream is.draft.image found.info f f.stream is.whole
