-- What is read of the folder of a finished volume, also without the last line feed of its metadata.
use Rattle.std.proofs.Common.{◌≡◌, ◌≢◌, ℕ, ◌*◌, ◌≤◌, true, false, ◌==◌, Bool, List, [], ◌∷◌, ◌++◌, length, refl, sym, ap, subst, ◌∙◌, arith, inl, inr}
use Rattle.std.specs.Prelude.{◌||◌, Option, Some, IsSome, Contains, unwrap_or}
use Rattle.std.specs.FinMap.{empty, get}
use Rattle.std.specs.List.{list_any}
use Rattle.std.proofs.lemmas.List.Elements.{Contains-append_left}
use Rattle.sha2.specs.Sha512.{sha512}
use Rattle.aff_model.specs.declared.limits.TheConstants.{CHUNK, MAX_SIZE}
use Rattle.aff_model.specs.Held.{Held, bytes_of}
use Rattle.aff_fields.specs.declared.entry.Entry.{Entry}
use Rattle.aff_spec.specs.Acquired.{segment_names}
use Rattle.aff_spec.specs.Appends.{applied}
use Rattle.aff_spec.specs.Bevvies.{bevvy_count}
use Rattle.aff_spec.specs.Names.{folder_name, segment_in, stream_urn, image_urn}
use Rattle.aff_spec.specs.Runs.{AreGreatestRuns}
use Rattle.aff_spec.specs.Volumes.{volume_of}
use Rattle.aff_spec.specs.Words.{is_uuid}
use Rattle.aff_spec.proofs.Appends.{applied-append}
use Rattle.aff_spec.proofs.Members.{alike}
use Rattle.aff_turtle.specs.Triples.{Fact}
use Rattle.aff_turtle.specs.Reading.{IsTurtle}
use Rattle.aff_turtle.specs.Written.{AreFacts}
use Rattle.aff_turtle.proofs.Again.{read_again}
use Rattle.aff_turtle.proofs.Readings.{given, says_once}
use Rattle.aff_info.specs.Reading.{IsInfo}
use Rattle.aff_info.specs.Writing.{facts_of}
use Rattle.aff_image.specs.Image.{Image, image_bytes, image_spot}
use Rattle.aff_image.specs.Volume.{IsReadable, image_appends}
use Rattle.aff_finish.specs.BlockMap.{block_map_hash}
use Rattle.aff_finish.specs.Container.{container_appends, version_name, description_name, information_name}
use Rattle.aff_finish.specs.Finished.{IsWhole, image_info}
use Rattle.aff_finish.specs.Finishing.{digests_of}
use Rattle.aff_finish.specs.Information.{information}
use Rattle.aff_finish.specs.Named.{IsNamed}
use Rattle.aff_finish.specs.declared.hashes.Hashes.{Hashes}
use Rattle.aff_finish.proofs.Facts.{can_be_written}
use Rattle.aff_finish.proofs.Made.{container_alike, image_made, information_there}
use Rattle.aff_finish.proofs.Same.{AreAlike, block_map_alike, blocks_alike, byte_alike, cell_alike}
use Rattle.aff_finished.specs.Laws.{found_of}
use Rattle.aff_finished.specs.Left.{IsInFull, LacksLastFeed}
use Rattle.aff_finished.proofs.CutTexts.{bare_facts, without_feed}

pub record IsKept (uuid : List ℕ) (m : Image) (held : Held) (h : Hashes) : Type 0 where
  pub entries : List Entry
  pub runs : AreGreatestRuns (image_spot m) entries
  pub alike : AreAlike held (image_made uuid m.chunks entries)
  pub stands : (name : List ℕ) → Contains (segment_names uuid (length m.chunks)) name → IsSome (get held name)
  pub readable : IsReadable uuid m held
  pub named : IsNamed held (found_of uuid m h)
  pub linear : h.linear ≡ digests_of (image_bytes m)
  pub block_map : h.block_map ≡ block_map_hash held (stream_urn uuid) (image_urn uuid) (bevvy_count (length m.chunks))

-- a segment in the folder of a URN has a slash in its name, and the metadata have none
or_true : (b : Bool) → (b || true) ≡ true
or_true true = refl
or_true false = refl

has_slash : (xs ys : List ℕ) → list_any (λ b. b == 47) (xs ++ 47 ∷ ys) ≡ true
has_slash [] ys = refl
has_slash (x ∷ xs) ys = ap (λ t. (x == 47) || t) (has_slash xs ys) ∙ or_true (x == 47)

pub apart : (urn x : List ℕ) → segment_in urn x ≢ information_name
apart urn x e =
    let some : list_any (λ b. b == 47) information_name ≡ true = ap (list_any (λ b. b == 47)) (sym e) ∙ has_slash (folder_name urn) x in
    let none : list_any (λ b. b == 47) information_name ≡ false = refl in
    cc (none, some)

module _ (uuid : List ℕ) (m : Image) (last : Held) (h : Hashes) (whole : IsWhole uuid m last h) where
  abbrev text_of : List ℕ
  text_of = information uuid m.plan.size (length m.chunks) h

  made_is : last ≡ applied (image_made uuid m.chunks whole.entries) (container_appends uuid text_of)
  made_is = whole.made ∙ applied-append empty (image_appends uuid m whole.entries) (container_appends uuid text_of)

  last_alike : AreAlike last (image_made uuid m.chunks whole.entries)
  last_alike urn x = ap (λ g. bytes_of g (segment_in urn x)) made_is ∙ container_alike (image_made uuid m.chunks whole.entries) uuid text_of urn x

  pub metadata_there : get last information_name ≡ Some text_of
  metadata_there = ap (λ g. get g information_name) made_is ∙ information_there uuid m.chunks whole.entries text_of

  last_stands : (name : List ℕ) → Contains (segment_names uuid (length m.chunks)) name → IsSome (get last name)
  last_stands name listed =
      (whole.segments name).1 (Contains-append_left (segment_names uuid (length m.chunks)) (version_name ∷ description_name ∷ information_name ∷ []) name listed)

  kept_whole : IsKept uuid m last h
  kept_whole = record {
    entries = whole.entries;
    runs = whole.runs;
    alike = last_alike;
    stands = last_stands;
    readable = whole.readable;
    named = whole.named;
    linear = whole.linear;
    block_map = whole.block_map;
  }

  module _ (ok : is_uuid uuid ≡ true) (small : m.plan.size ≤ MAX_SIZE) (few : CHUNK * length m.chunks ≤ MAX_SIZE) where
    abbrev facts : List Fact
    facts = facts_of (image_info uuid m h)

    are_facts : AreFacts facts
    are_facts = can_be_written uuid m.plan.size (length m.chunks) h ok small few

    stated : IsInfo facts (found_of uuid m h)
    stated =
        let same : Some whole.named.text ≡ Some text_of = sym whole.named.there ∙ metadata_there in
        let text_is : whole.named.text ≡ text_of = cc in
        let one : whole.named.facts ≡ facts = says_once text_of whole.named.facts facts (subst (λ v. IsTurtle v whole.named.facts) text_is whole.named.turtle) (given text_of facts (read_again facts are_facts)) in
        subst (λ ts. IsInfo ts (found_of uuid m h)) one whole.named.stated

    module _ (held : Held) (lacks : LacksLastFeed last held) where
      like_last : AreAlike held last
      like_last urn x = ap (λ o. unwrap_or o []) (lacks.others (segment_in urn x) (apart urn x))

      stands_still : (name : List ℕ) → Contains (segment_names uuid (length m.chunks)) name → IsSome (get held name)
      stands_still name listed = elim (alike name information_name) [
        | inl is ↦ subst (λ n. IsSome (get held n)) (sym is) (subst (λ (o : Option (List ℕ)). IsSome o) (sym lacks.has) refl)
        | inr other ↦ subst (λ (o : Option (List ℕ)). IsSome o) (sym (lacks.others name other)) (last_stands name listed)
      ]

      still_named : IsNamed held (found_of uuid m h)
      still_named =
          let same : Some (lacks.text ++ 10 ∷ []) ≡ Some text_of = sym lacks.had ∙ metadata_there in
          let text_is : lacks.text ++ 10 ∷ [] ≡ text_of = cc in
          record {
            text = lacks.text;
            there = lacks.has;
            facts = facts;
            turtle = without_feed _ _ are_facts (bare_facts (image_info uuid m h) (omega (arith, few)) (omega (arith, small))) lacks.text text_is;
            stated = stated;
          }

      kept_lacking : IsKept uuid m held h
      kept_lacking = record {
        entries = whole.entries;
        runs = whole.runs;
        alike = λ urn x. like_last urn x ∙ last_alike urn x;
        stands = stands_still;
        readable = record {
          cells = λ i. cell_alike held last like_last (volume_of uuid) i ∙ whole.readable.cells i;
          bytes = λ i. byte_alike held last like_last (volume_of uuid) i ∙ whole.readable.bytes i;
          blocks = blocks_alike last held (λ urn x. sym (like_last urn x)) (stream_urn uuid) (length m.chunks) whole.readable.blocks;
        };
        named = still_named;
        linear = whole.linear;
        block_map = whole.block_map ∙ ap sha512 (sym (block_map_alike held last like_last (stream_urn uuid) (image_urn uuid) (bevvy_count (length m.chunks))));
      }

    pub kept : (held : Held) → IsInFull last held → IsKept uuid m held h
    kept held (inl same) = subst (λ g. IsKept uuid m g h) (sym same) kept_whole
    kept held (inr lacks) = kept_lacking held lacks
