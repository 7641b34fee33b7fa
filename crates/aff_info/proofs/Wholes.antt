-- When all names are read, the three URNs are known.
use Rattle.std.proofs.Common.{◌≡◌, ◌⊎◌, ℕ, List, [], ◌∷◌, Option, Some, None, Result, Ok, Err, refl, sym, ap, subst, ◌∙◌, inl, inr}
use Rattle.std.specs.Prelude.{filter, IsSome}
use Rattle.aff_turtle.specs.Triples.{Fact}
use Rattle.aff_info.specs.Schema.{chunk_size, chunks_in_segment, sha512_type}
use Rattle.aff_info.specs.Table.{names, fits, has_type}
use Rattle.aff_info.specs.Values.{gap_of}
use Rattle.aff_info.specs.Statements.{One, Missing, Only, Twice, one_of}
use Rattle.aff_info.specs.Accept.{passes, needs, urn_in, urn_named, size_of, needs_number, needs_urn, needs_method, digest_in, accepted}
use Rattle.aff_info.specs.Faults.{InfoFault, and_then}
use Rattle.aff_info.specs.Reading.{nothing, stated, runs, HasUrns}
use Rattle.aff_info.specs.declared.draft.PartialInfo.{PartialInfo}
use Rattle.aff_info.specs.declared.name.InfoName.{InfoName}
use Rattle.aff_info.specs.declared.name.InfoName.TheVariants.{Stream, StreamSize, ChunkSize, ChunksInSegment, Method, StreamStored, Image, ImageSize, Dependent, Gap, ImageStored, Md5, Sha1, Sha256, Sha512, BlockMap}

abbrev known_draft : PartialInfo → Result PartialInfo InfoFault
known_draft d = Ok d

ok_same : (d new : PartialInfo) → known_draft d ≡ known_draft new → d ≡ new
ok_same d new h = cc

then_ok : {A : Type 0} (o : Result A InfoFault) (f : A → Result PartialInfo InfoFault) (new : PartialInfo) → and_then o f ≡ Ok new → (x : A) × (f x ≡ Ok new)
then_ok (Ok x) f new h = (x, h)
then_ok (Err e) f new h = absurd cc

-- a URN that is known stays known
record Keeps (d new : PartialInfo) : Type 0 where
  volume : IsSome d.volume → IsSome new.volume
  stream : IsSome d.stream → IsSome new.stream
  image : IsSome d.image → IsSome new.image

-- the URN that a name's statement tells is known
abbrev Tells : InfoName → PartialInfo → Type 0
Tells Stream d = IsSome d.stream
Tells Image d = IsSome d.image
Tells StreamStored d = IsSome d.volume
Tells _ d = Unit {0}

abbrev Grows : InfoName → PartialInfo → PartialInfo → Type 0
Grows n d new = Keeps d new × Tells n new

stays : (d : PartialInfo) → Keeps d d
stays d = record { volume = λ h. h; stream = λ h. h; image = λ h. h }

grown : (n : InfoName) (d mid new : PartialInfo) → Grows n d mid → known_draft mid ≡ Ok new → Grows n d new
grown n d mid new g h = subst (λ (x : PartialInfo). Grows n d x) (ok_same mid new h) g

grows : (n : InfoName) (t : Fact) (d new : PartialInfo) → accepted n t d ≡ Ok new → Grows n d new
grows Stream t d new h =
    let k = then_ok (urn_in Stream t.subject) (λ urn. Ok (record d { stream = Some urn })) new h in
    grown Stream d (record d { stream = Some k.0 }) new (record { volume = λ e. e; stream = λ e. refl; image = λ e. e }, refl) k.1
grows Image t d new h =
    let k = then_ok (urn_in Image t.subject) (λ urn. Ok (record d { image = Some urn })) new h in
    grown Image d (record d { image = Some k.0 }) new (record { volume = λ e. e; stream = λ e. e; image = λ e. refl }, refl) k.1
grows StreamStored t d new h =
    let k = then_ok (urn_named StreamStored t.object) (λ urn. Ok (record d { volume = Some urn })) new h in
    grown StreamStored d (record d { volume = Some k.0 }) new (record { volume = λ e. refl; stream = λ e. e; image = λ e. e }, refl) k.1
grows StreamSize t d new h =
    let k = then_ok (size_of StreamSize t.object) (λ n. Ok (record d { stream_size = n })) new h in
    grown StreamSize d (record d { stream_size = k.0 }) new (record { volume = λ e. e; stream = λ e. e; image = λ e. e }, tt) k.1
grows ImageSize t d new h =
    let k = then_ok (size_of ImageSize t.object) (λ n. Ok (record d { image_size = n })) new h in
    grown ImageSize d (record d { image_size = k.0 }) new (record { volume = λ e. e; stream = λ e. e; image = λ e. e }, tt) k.1
grows ChunkSize t d new h = let k = then_ok (needs_number ChunkSize chunk_size t.object) (λ _. Ok d) new h in grown ChunkSize d d new (stays d, tt) k.1
grows ChunksInSegment t d new h = let k = then_ok (needs_number ChunksInSegment chunks_in_segment t.object) (λ _. Ok d) new h in grown ChunksInSegment d d new (stays d, tt) k.1
grows Method t d new h = let k = then_ok (needs_method t.object) (λ _. Ok d) new h in grown Method d d new (stays d, tt) k.1
grows ImageStored t d new h = let k = then_ok (needs_urn ImageStored d.volume t.object) (λ _. Ok d) new h in grown ImageStored d d new (stays d, tt) k.1
grows Dependent t d new h = let k = then_ok (needs_urn Dependent d.stream t.object) (λ _. Ok d) new h in grown Dependent d d new (stays d, tt) k.1
grows Gap t d new h =
    let k = then_ok (needs Gap (gap_of t.object)) (λ gap. Ok (record d { gap = gap })) new h in
    grown Gap d (record d { gap = k.0 }) new (record { volume = λ e. e; stream = λ e. e; image = λ e. e }, tt) k.1
grows Md5 t d new h =
    let k = then_ok (digest_in Md5 16 t.object) (λ bytes. Ok (record d { linear = record d.linear { md5 = bytes } })) new h in
    grown Md5 d (record d { linear = record d.linear { md5 = k.0 } }) new (record { volume = λ e. e; stream = λ e. e; image = λ e. e }, tt) k.1
grows Sha1 t d new h =
    let k = then_ok (digest_in Sha1 20 t.object) (λ bytes. Ok (record d { linear = record d.linear { sha1 = bytes } })) new h in
    grown Sha1 d (record d { linear = record d.linear { sha1 = k.0 } }) new (record { volume = λ e. e; stream = λ e. e; image = λ e. e }, tt) k.1
grows Sha256 t d new h =
    let k = then_ok (digest_in Sha256 32 t.object) (λ bytes. Ok (record d { linear = record d.linear { sha256 = bytes } })) new h in
    grown Sha256 d (record d { linear = record d.linear { sha256 = k.0 } }) new (record { volume = λ e. e; stream = λ e. e; image = λ e. e }, tt) k.1
grows Sha512 t d new h =
    let k = then_ok (digest_in Sha512 64 t.object) (λ bytes. Ok (record d { linear = record d.linear { sha512 = bytes } })) new h in
    grown Sha512 d (record d { linear = record d.linear { sha512 = k.0 } }) new (record { volume = λ e. e; stream = λ e. e; image = λ e. e }, tt) k.1
grows BlockMap t d new h =
    let typed = then_ok (passes BlockMap (has_type t.object sha512_type)) (λ _. and_then (digest_in BlockMap 64 t.object) (λ bytes. Ok (record d { block_map = bytes }))) new h in
    let k = then_ok (digest_in BlockMap 64 t.object) (λ bytes. Ok (record d { block_map = bytes })) new typed.1 in
    grown BlockMap d (record d { block_map = k.0 }) new (record { volume = λ e. e; stream = λ e. e; image = λ e. e }, tt) k.1

stated_grows : (n : InfoName) (o : One) (d new : PartialInfo) → stated n o d ≡ Ok new → Grows n d new
stated_grows n Missing d new h = absurd cc
stated_grows n Twice d new h = absurd cc
stated_grows n (Only t) d new h = grows n t d new h

both : (d mid new : PartialInfo) → Keeps d mid → Keeps mid new → Keeps d new
both d mid new a b = record { volume = λ h. b.volume (a.volume h); stream = λ h. b.stream (a.stream h); image = λ h. b.image (a.image h) }

-- each name of a list tells its URN
abbrev AllTell : List InfoName → PartialInfo → Type 0
AllTell [] d = Unit {0}
AllTell (n ∷ ns) d = Tells n d × AllTell ns d

kept_tells : (n : InfoName) (d new : PartialInfo) → Keeps d new → Tells n d → Tells n new
kept_tells Stream d new k h = k.stream h
kept_tells Image d new k h = k.image h
kept_tells StreamStored d new k h = k.volume h
kept_tells _ d new k h = tt

result_split : {A : Type 0} (o : Result A InfoFault) (f : A → Result PartialInfo InfoFault) (new : PartialInfo) → and_then o f ≡ Ok new → (x : A) × (o ≡ Ok x) × (f x ≡ Ok new)
result_split (Ok x) f new h = (x, refl, h)
result_split (Err e) f new h = absurd cc

runs_tell : (ns : List InfoName) (facts : List Fact) (d new : PartialInfo) → runs ns facts d ≡ Ok new → Keeps d new × AllTell ns new
unfolding runs
runs_tell [] facts d new h = (grown_keeps d new h, tt)
  where
    grown_keeps : (d new : PartialInfo) → known_draft d ≡ Ok new → Keeps d new
    grown_keeps d new h = subst (Keeps d) (ok_same d new h) (stays d)
runs_tell (n ∷ ns) facts d new h =
    let k = result_split (stated n (one_of (filter (fits n d) facts)) d) (runs ns facts) new h in
    let g = stated_grows n (one_of (filter (fits n d) facts)) d k.0 k.1 in
    let r = runs_tell ns facts k.0 new k.2 in
    (both d k.0 new g.0 r.0, (kept_tells n k.0 new r.0 g.1, r.1))

pub whole : (facts : List Fact) (d new : PartialInfo) → runs names facts d ≡ Ok new → HasUrns new
whole facts d new h =
    let t = (runs_tell names facts d new h).1 in
    record { stream = t.0; image = t.1.0; volume = t.1.1.1.1.1.1.0 }
