use Rattle.std.proofs.Common.{◌≡◌, ◌/◌, min, length, take, drop, ap, sym, subst, ◌∙◌, arith, length-take}
use Rattle.std.proofs.lemmas.List.{take-append-le, take_all}
use Rattle.aff_model.specs.Held.{IsInside, bytes_of}
use Rattle.aff_spec.specs.Names.{bevvy_name}
use Rattle.aff_volume.proofs.Chunks.{chunk_inside, chunk_is, long_enough}
use Rattle.aff_volume.proofs.chunk.read_chunk.Goals as goal

pub read_at-requires : goal.read_at-requires
read_at-requires g c = λ t.
    let held = g.F.Folder.held c.args.folder.now in
    let stream = c.args.info.now.stream in
    let name : c.as_str.result.now ≡ bevvy_name stream (c.args.chunk / 1024) = c.as_str.ensures.value ∙ c.in-Ok-segment_name.ensures in
    let count : length (take c.min-count.result c.args.out.now) ≡ c.min-count.result = omega (arith, c.min-count.ensures, length-take c.min-count.result c.args.out.now) in
    let is : c.min-count.result ≡ min c.in-Ok.point.len 32768 = c.min-count.ensures ∙ ap (min c.in-Ok.point.len) c.requires.room in
    subst (λ h. IsInside h c.as_str.result.now c.in-Ok.point.at (length (take c.min-count.result c.args.out.now))) (sym (c.in-Ok.ensures.same t))
    (subst (λ v. IsInside held v c.in-Ok.point.at (length (take c.min-count.result c.args.out.now))) (sym name)
    (subst (λ n. IsInside held (bevvy_name stream (c.args.chunk / 1024)) c.in-Ok.point.at n) (sym count)
    (chunk_inside held c.args.info.now (c.requires.there t) c.args.chunk c.requires.low c.in-Ok.point (c.in-Ok.ensures.point t) c.min-count.result is)))

pub returns-in-Ok-read_at-clause-enough : goal.returns-in-Ok-read_at-clause-enough
returns-in-Ok-read_at-clause-enough g c = λ t.
    let is : c.min-count.result ≡ min c.in-Ok.point.len 32768 = c.min-count.ensures ∙ ap (min c.in-Ok.point.len) c.requires.room in
    long_enough (g.F.Folder.held c.args.folder.now) c.args.info.now (c.requires.there t) c.args.chunk c.requires.low c.in-Ok.point (c.in-Ok.ensures.point t) c.min-count.result is

pub returns-in-Ok-read_at-clause-bytes : goal.returns-in-Ok-read_at-clause-bytes
returns-in-Ok-read_at-clause-bytes g c = λ t.
    let held = g.F.Folder.held c.args.folder.now in
    let stream = c.args.info.now.stream in
    let n = c.min-count.result in
    let name : c.as_str.result.now ≡ bevvy_name stream (c.args.chunk / 1024) = c.as_str.ensures.value ∙ c.in-Ok-segment_name.ensures in
    let count : length (take c.min-count.result c.args.out.now) ≡ c.min-count.result = omega (arith, c.min-count.ensures, length-take c.min-count.result c.args.out.now) in
    let is : c.min-count.result ≡ min c.in-Ok.point.len 32768 = c.min-count.ensures ∙ ap (min c.in-Ok.point.len) c.requires.room in
    let long : length c.read_at.new.out ≡ c.min-count.result = c.read_at.auto.out ∙ count in
    take-append-le n c.read_at.new.out (drop n c.args.out.now) (omega (arith, long))
    ∙ take_all n c.read_at.new.out (omega (arith, long))
    ∙ c.in-Ok-read_at.ensures.bytes t
    ∙ (λ i. take (count i) (drop c.in-Ok.point.at (bytes_of (c.in-Ok.ensures.same t i) (name i))))
    ∙ chunk_is held c.args.info.now (c.requires.there t) c.args.chunk c.requires.low c.in-Ok.point (c.in-Ok.ensures.point t) n is
