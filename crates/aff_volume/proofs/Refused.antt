-- A folder has a whole volume, or it meets a refusal.
use Rattle.std.proofs.Common.{◌≡◌, ◌≢◌, ℕ, ◌*◌, inl, inr, List, length, refl, sym, ap, subst, ◌∙◌, arith, Result, Ok, Err}
use Rattle.std.specs.Prelude.{Option, Some, None, IsSome, IsSomeAnd, IfErr, IsErr, IsErrOf, IfOk, option_map}
use Rattle.std.specs.FinMap.{get}
use Rattle.aff_model.specs.Held.{Held, bytes_of}
use Rattle.aff_model.specs.Plan.{chunk_count}
use Rattle.aff_spec.specs.Names.{bevvy_name, index_name, map_name, idx_name}
use Rattle.aff_spec.specs.BlockHashes.{chunks_in}
use Rattle.aff_outside.specs.declared.folder.FolderError.{FolderError}
use Rattle.aff_outside.specs.declared.folder.FolderError.TheVariants as folders
use Rattle.aff_turtle.specs.declared.error.TurtleError.{TurtleError}
use Rattle.aff_turtle.specs.declared.error.TurtleError.TheVariants as turtles
use Rattle.aff_turtle.specs.Triples.{Fact}
use Rattle.aff_turtle.specs.Reading.{IsTurtle}
use Rattle.aff_turtle.specs.Reading as turtle
use Rattle.aff_turtle.proofs.Readings.{says_once, takes_or_refuses}
use Rattle.aff_info.specs.declared.error.InfoError.{InfoError}
use Rattle.aff_info.specs.declared.error.InfoError.TheVariants as infos
use Rattle.aff_info.specs.declared.draft.PartialInfo.{PartialInfo}
use Rattle.aff_info.specs.declared.info.Info.{Info as InfoOf}
use Rattle.aff_info.specs.Faults.{InfoFault}
use Rattle.aff_info.specs.Table.{names}
use Rattle.aff_info.specs.Found.{Found}
use Rattle.aff_info.specs.Reading.{IsError, IsInfo, nothing, runs, whole_of, aside}
use Rattle.aff_info.proofs.Outcomes.{is_taken}
use Rattle.aff_bevvy.specs.declared.error.StreamError.{StreamError}
use Rattle.aff_bevvy.specs.declared.error.StreamError.TheVariants as streams
use Rattle.aff_bevvy.specs.Segments.{IsBevvy, held_length}
use Rattle.aff_bevvy.specs.Streams.{IsStream, IsStoredLength}
use Rattle.aff_bevvy.specs.Faults.{LacksSegment, IsRagged}
use Rattle.aff_bevvy.specs.Faults as stream
use Rattle.aff_map.specs.declared.error.MapError.{MapError}
use Rattle.aff_map.specs.declared.error.MapError.TheVariants as maps
use Rattle.aff_map.specs.Mapped.{IsSound}
use Rattle.aff_map.specs.Refusals.{IsMapFault}
use Rattle.aff_map.proofs.Refused.{is_taken as taken}
use Rattle.aff_finish.specs.Container.{information_name}
use Rattle.aff_finish.specs.Named.{IsNamed}
use Rattle.aff_volume.specs.Errors.{of_folder, of_turtle, of_info, of_stream, of_map}
use Rattle.aff_volume.specs.Hashed.{AreHashed}
use Rattle.aff_volume.specs.Listing.{IsOfList, LacksHashes, LacksTables}
use Rattle.aff_volume.specs.Opened.{HasMap, IsThere, IsVolumeOf, IsWholeVolume, Opened}
use Rattle.aff_volume.specs.Refusals.{IsAbsent, IsNoInfo, IsNoStream, IsOfCall, IsVolumeRefused, Names, SaysOfStatements}
use Rattle.aff_volume.specs.Tables.{IsTablesFault}
use Rattle.aff_volume.specs.declared.error.VolumeError.{VolumeError}
use Rattle.aff_volume.specs.declared.error.VolumeError.TheVariants.{NoInformation, Turtle, Info, NoMap, Stream, BlockHashes, Map, Failed, Memory}

-- ---- a refusal of a layer is one of the volume

pub folder_refused : (held : Held) (e : FolderError) → IsVolumeRefused held (of_folder e)
folder_refused held folders.Failed = tt
folder_refused held folders.Memory = tt

pub folder_failed : (e : FolderError) → of_folder e ≡ Failed → e ≡ folders.Failed
folder_failed folders.Failed h = refl
folder_failed folders.Memory h = absurd cc

pub stream_failed : (e : StreamError) → of_stream e ≡ Failed → e ≡ streams.Failed
stream_failed streams.Failed h = refl
stream_failed streams.Memory h = absurd cc
stream_failed (streams.NoSegment b) h = absurd cc
stream_failed (streams.Ragged b) h = absurd cc
stream_failed (streams.PointPastEnd c) h = absurd cc
stream_failed (streams.PointLength c l) h = absurd cc

pub turtle_of_list : (e : TurtleError) → IsOfList (of_turtle e)
turtle_of_list turtles.Memory = tt
turtle_of_list (turtles.Syntax n) = tt
turtle_of_list (turtles.NoPrefix n) = tt
turtle_of_list (turtles.Unsupported n) = tt
turtle_of_list (turtles.Utf8 n) = tt

pub info_of_list : (e : InfoError) → IsOfList (of_info e)
info_of_list infos.Memory = tt
info_of_list (infos.Missing n) = tt
info_of_list (infos.Twice n) = tt
info_of_list (infos.BadValue n) = tt
info_of_list (infos.Method iri) = tt

pub map_failed : (e : MapError) → of_map e ≡ Failed → ⊥
map_failed maps.Memory h = absurd cc
map_failed (maps.Ragged n) h = absurd cc
map_failed (maps.Empty n) h = absurd cc
map_failed (maps.PastEnd n) h = absurd cc
map_failed (maps.Overlap a b) h = absurd cc
map_failed (maps.NoTarget n) h = absurd cc
map_failed (maps.BadTarget n) h = absurd cc
map_failed (maps.PastTarget n) h = absurd cc

-- an answer that is no failure has no cause to tell, and that of a layer is the layer's
err_same : (T : Type 0) (x y : VolumeError) → IsErrOf {T = T} (Err x) y → x ≡ y
err_same T x y h = cc

pub folder_cause : (T U : Type 0) (x : VolumeError) (e : FolderError) → x ≡ of_folder e → IsErrOf {T = T} (Err x) Failed → IsErrOf {T = U} (Err e) folders.Failed
folder_cause T U x e is h = ap Err (folder_failed e (sym is ∙ err_same T x Failed h))

pub stream_cause : (T U : Type 0) (x : VolumeError) (e : StreamError) → x ≡ of_stream e → IsErrOf {T = T} (Err x) Failed → IsErrOf {T = U} (Err e) streams.Failed
stream_cause T U x e is h = ap Err (stream_failed e (sym is ∙ err_same T x Failed h))

pub map_cause : (T : Type 0) (x : VolumeError) (e : MapError) → x ≡ of_map e → IsErrOf {T = T} (Err x) Failed → ⊥
map_cause T x e is h = map_failed e (sym is ∙ err_same T x Failed h)

pub list_cause : (T : Type 0) (x : VolumeError) → IsOfList x → IsErrOf {T = T} (Err x) Failed → ⊥
list_cause T x of h = subst IsOfList (err_same T x Failed h) of

pub text_refused : (held : Held) (text : List ℕ) (e : TurtleError) → get held information_name ≡ Some text → (e ≢ turtles.Memory → turtle.IsRefused text e) → IsVolumeRefused held (of_turtle e)
text_refused held text turtles.Memory there h = tt
text_refused held text (turtles.Syntax n) there h = record { text = text; there = there; refused = h (λ e. absurd cc) }
text_refused held text (turtles.NoPrefix n) there h = record { text = text; there = there; refused = h (λ e. absurd cc) }
text_refused held text (turtles.Unsupported n) there h = record { text = text; there = there; refused = h (λ e. absurd cc) }
text_refused held text (turtles.Utf8 n) there h = record { text = text; there = there; refused = h (λ e. absurd cc) }

pub info_refused : (held : Held) (text : List ℕ) (facts : List Fact) (e : InfoError) → get held information_name ≡ Some text → IsTurtle text facts → IsError facts e → IsVolumeRefused held (of_info e)
info_refused held text facts infos.Memory there turtle h = tt
info_refused held text facts (infos.Missing n) there turtle h = record { text = text; there = there; facts = facts; turtle = turtle; refused = h; named = tt }
info_refused held text facts (infos.Twice n) there turtle h = record { text = text; there = there; facts = facts; turtle = turtle; refused = h; named = tt }
info_refused held text facts (infos.BadValue n) there turtle h = record { text = text; there = there; facts = facts; turtle = turtle; refused = h; named = tt }
info_refused held text facts (infos.Method iri) there turtle h = record { text = text; there = there; facts = facts; turtle = turtle; refused = h; named = tt }

pub stream_absent : (held : Held) (info : InfoOf) (e : StreamError) → HasMap held info.image → stream.IsStreamRefused held info.stream info.stream_size e → IsAbsent held info (of_stream e)
stream_absent held info streams.Failed tables h = tt
stream_absent held info streams.Memory tables h = tt
stream_absent held info (streams.NoSegment b) tables h = record { tables = tables; refused = h; named = tt }
stream_absent held info (streams.Ragged b) tables h = record { tables = tables; refused = h; named = tt }
stream_absent held info (streams.PointPastEnd c) tables h = record { tables = tables; refused = h; named = tt }
stream_absent held info (streams.PointLength c l) tables h = record { tables = tables; refused = h; named = tt }

pub no_length : (o : Option (List ℕ)) → option_map length o ≡ None → o ≡ None
no_length None h = refl
no_length (Some bytes) h = absurd cc

pub some_length : (o : Option (List ℕ)) (n : ℕ) → option_map length o ≡ Some n → IsSome o
some_length None n h = absurd cc
some_length (Some bytes) n h = refl

pub tables_absent : (held : Held) (info : InfoOf) (e : VolumeError) → LacksTables (held_length held) info.image e → IsAbsent held info e
tables_absent held info NoMap (inl h) = inl (no_length _ h)
tables_absent held info NoMap (inr h) = inr (no_length _ h)
tables_absent held info Memory h = tt
tables_absent held info NoInformation h = absurd h
tables_absent held info (Turtle e) h = absurd h
tables_absent held info (Info e) h = absurd h
tables_absent held info (Stream e) h = absurd h
tables_absent held info (BlockHashes b) h = absurd h
tables_absent held info (Map e) h = absurd h
tables_absent held info Failed h = absurd h

pub hashes_absent : (held : Held) (info : InfoOf) (e : VolumeError) → HasMap held info.image → IsStream held info.stream info.stream_size
    → LacksHashes (held_length held) info.stream (chunk_count info.stream_size) e → IsAbsent held info e
hashes_absent held info (BlockHashes b) tables is h = record { tables = tables; stream = is; first = h }
hashes_absent held info Memory tables is h = tt
hashes_absent held info NoInformation tables is h = absurd h
hashes_absent held info (Turtle e) tables is h = absurd h
hashes_absent held info (Info e) tables is h = absurd h
hashes_absent held info NoMap tables is h = absurd h
hashes_absent held info (Stream e) tables is h = absurd h
hashes_absent held info (Map e) tables is h = absurd h
hashes_absent held info Failed tables is h = absurd h

pub map_absent : (held : Held) (info : InfoOf) (e : VolumeError) → HasMap held info.image → IsStream held info.stream info.stream_size
    → AreHashed (held_length held) info.stream (chunk_count info.stream_size) → IsTablesFault held info e → IsAbsent held info e
map_absent held info (Map e) tables is hashed h = record { tables = tables; stream = is; hashed = hashed; refused = h }
map_absent held info Failed tables is hashed h = tt
map_absent held info Memory tables is hashed h = tt
map_absent held info NoInformation tables is hashed h = absurd h
map_absent held info (Turtle e) tables is hashed h = absurd h
map_absent held info (Info e) tables is hashed h = absurd h
map_absent held info NoMap tables is hashed h = absurd h
map_absent held info (Stream e) tables is hashed h = absurd h
map_absent held info (BlockHashes b) tables is hashed h = absurd h

pub refused_named : (held : Held) (found : Found) (e : VolumeError) → IsNamed held found → IsAbsent held found.info e → IsVolumeRefused held e
refused_named held found NoMap named h = (found, named, h)
refused_named held found (Stream e) named h = (found, named, h)
refused_named held found (BlockHashes b) named h = (found, named, h)
refused_named held found (Map e) named h = (found, named, h)
refused_named held found Failed named h = tt
refused_named held found Memory named h = tt
refused_named held found NoInformation named h = absurd h
refused_named held found (Turtle e) named h = absurd h
refused_named held found (Info e) named h = absurd h

pub tables_failed : (held : Held) (info : InfoOf) (e : MapError) → (e ≢ maps.Memory → IsMapFault (bytes_of held (map_name info.image)) (bytes_of held (idx_name info.image)) info.image_size info.stream info.stream_size e)
    → IsTablesFault held info (of_map e)
tables_failed held info maps.Memory h = tt
tables_failed held info (maps.Ragged n) h = h (λ e. absurd cc)
tables_failed held info (maps.Empty n) h = h (λ e. absurd cc)
tables_failed held info (maps.PastEnd n) h = h (λ e. absurd cc)
tables_failed held info (maps.Overlap a b) h = h (λ e. absurd cc)
tables_failed held info (maps.NoTarget n) h = h (λ e. absurd cc)
tables_failed held info (maps.BadTarget n) h = h (λ e. absurd cc)
tables_failed held info (maps.PastTarget n) h = h (λ e. absurd cc)

-- ---- a folder that has a whole volume meets none

-- a folder has one text, one list of triples, one metadata
one_text : (o : Option (List ℕ)) (t u : List ℕ) → o ≡ Some t → o ≡ Some u → t ≡ u
one_text o t u a b = let e : Some t ≡ Some u = sym a ∙ b in cc

one_draft : (d e : PartialInfo) (r : Result PartialInfo InfoFault) → r ≡ Ok d → r ≡ Ok e → d ≡ e
one_draft d e r a b = let same : r ≡ r = refl in cc

one_info : (i j : InfoOf) (o : Option InfoOf) → o ≡ Some i → o ≡ Some j → i ≡ j
one_info i j o a b = let e : Some i ≡ Some j = sym a ∙ b in cc

one_stated : (facts : List Fact) (f g : Found) → IsInfo facts f → IsInfo facts g → f ≡ g
one_stated facts f g a b =
    let draft : a.draft ≡ b.draft = one_draft a.draft b.draft (runs names facts nothing) a.read b.read in
    let info : f.info ≡ g.info = one_info f.info g.info (whole_of b.draft) (ap whole_of (sym draft) ∙ a.whole) b.whole in
    let rest : f.aside ≡ g.aside = a.rest ∙ ap (aside facts) draft ∙ sym b.rest in
    λ i. record { info = info i; aside = rest i }

pub one_named : (held : Held) (f g : Found) → IsNamed held f → IsNamed held g → f ≡ g
one_named held f g a b =
    let text : a.text ≡ b.text = one_text (get held information_name) a.text b.text a.there b.there in
    let facts : a.facts ≡ b.facts = says_once b.text a.facts b.facts (subst (λ t. IsTurtle t a.facts) text a.turtle) b.turtle in
    one_stated b.facts f g (subst (λ fs. IsInfo fs f) facts a.stated) b.stated

gone : (o : Option (List ℕ)) (text : List ℕ) → o ≡ Some text → o ≡ None → ⊥
gone o text a b = let e : Some text ≡ None = sym a ∙ b in absurd cc

missing : (o : Option (List ℕ)) → IsSome o → o ≡ None → ⊥
missing None a b = absurd cc
missing (Some bytes) a b = absurd cc

no_info : (held : Held) (found : Found) (e : InfoError) → IsNamed held found → IsNoInfo held e → ⊥
no_info held found e named lack =
    let text : named.text ≡ lack.text = one_text (get held information_name) named.text lack.text named.there lack.there in
    let facts : named.facts ≡ lack.facts = says_once lack.text named.facts lack.facts (subst (λ t. IsTurtle t named.facts) text named.turtle) lack.turtle in
    alone e (is_taken lack.facts found (Err e) lack.refused (subst (λ fs. IsInfo fs found) facts named.stated)) lack.named
  where
    alone : (e : InfoError) → e ≡ infos.Memory → SaysOfStatements e → ⊥
    alone infos.Memory h says = says
    alone (infos.Missing n) h says = absurd cc
    alone (infos.Twice n) h says = absurd cc
    alone (infos.BadValue n) h says = absurd cc
    alone (infos.Method iri) h says = absurd cc

lacking : (held : Held) (stream : List ℕ) (n b : ℕ) → IsBevvy (held_length held) stream n b → LacksSegment (held_length held) stream b → ⊥
lacking held stream n b is (inl h) = none (held_length held (bevvy_name stream b)) _ is.bevvy h
  where
    none : (o : Option ℕ) (P : ℕ → Type 0) → IsSomeAnd o P → o ≡ None → ⊥
    none None P s e = absurd s
    none (Some m) P s e = absurd cc
lacking held stream n b is (inr h) = let e : Some (12 * chunks_in n b) ≡ None = sym is.index ∙ h in absurd cc

ragged : (held : Held) (stream : List ℕ) (n b : ℕ) → IsBevvy (held_length held) stream n b → IsRagged (held_length held) stream n b → ⊥
ragged held stream n b is h = other (held_length held (index_name stream b)) h.index is.index
  where
    other : (o : Option ℕ) → IsSomeAnd o (λ bytes. bytes ≢ 12 * chunks_in n b) → o ≡ Some (12 * chunks_in n b) → ⊥
    other None s e = absurd s
    other (Some m) s e = s cc

no_stream : (held : Held) (info : InfoOf) (e : StreamError) → IsStream held info.stream info.stream_size → IsNoStream held info e → ⊥
no_stream held info (streams.NoSegment b) is lack = lacking held info.stream (chunk_count info.stream_size) b (is.bevvies b lack.refused.0.0) lack.refused.0.1
no_stream held info (streams.Ragged b) is lack = ragged held info.stream (chunk_count info.stream_size) b (is.bevvies b lack.refused.0.0) lack.refused.0.1
no_stream held info (streams.PointPastEnd c) is lack = let inside = (is.chunks c lack.refused.1.0).inside in omega (arith, inside, lack.refused.1.1)
no_stream held info (streams.PointLength c l) is lack =
    lack.refused.1.3 (subst (IsStoredLength info.stream_size c) (sym lack.refused.1.2) (is.chunks c lack.refused.1.0).whole)
no_stream held info streams.Failed is lack = lack.named
no_stream held info streams.Memory is lack = lack.named

sound_alone : (map idx : List ℕ) (size : ℕ) (stream : List ℕ) (stream_size : ℕ) (e : MapError) → IsSound map idx size stream stream_size → IsMapFault map idx size stream stream_size e → ⊥
sound_alone map idx size stream stream_size e sound fault =
    let alone : e ≡ maps.Memory = taken map idx size stream stream_size {M = ℕ} (Err e) (λ _. fault) sound in
    subst (IsMapFault map idx size stream stream_size) alone fault

absent : (held : Held) (info : InfoOf) (e : VolumeError) → IsThere held info → IsAbsent held info e → IsOfCall e
absent held info NoMap there (inl h) = missing _ there.tables.map h
absent held info NoMap there (inr h) = missing _ there.tables.idx h
absent held info (Stream e) there lack = no_stream held info e there.stream lack
absent held info (BlockHashes b) there lack = lack.first.lacks (there.hashed b lack.first.there)
absent held info (Map e) there lack = sound_alone _ _ _ _ _ e there.map lack.refused
absent held info Failed there lack = tt
absent held info Memory there lack = tt
absent held info NoInformation there lack = lack
absent held info (Turtle e) there lack = lack
absent held info (Info e) there lack = lack

refused_by_names : (held : Held) (found : Found) (e : VolumeError) → IsWholeVolume held found → Names held (λ info. IsAbsent held info e) → IsOfCall e
refused_by_names held found e whole lack =
    let same : lack.0 ≡ found = one_named held lack.0 found lack.1 whole.named in
    absent held found.info e whole.there (subst (λ (f : Found). IsAbsent held f.info e) same lack.2)

pub whole_refused : (held : Held) (found : Found) (e : VolumeError) → IsWholeVolume held found → IsVolumeRefused held e → IsOfCall e
whole_refused held found NoInformation whole lack = gone _ whole.named.text whole.named.there lack
whole_refused held found (Turtle e) whole lack =
    let text : whole.named.text ≡ lack.text = one_text (get held information_name) whole.named.text lack.text whole.named.there lack.there in
    takes_or_refuses lack.text whole.named.facts e (subst (λ t. IsTurtle t whole.named.facts) text whole.named.turtle) lack.refused
whole_refused held found (Info e) whole lack = no_info held found e whole.named lack
whole_refused held found NoMap whole lack = refused_by_names held found NoMap whole lack
whole_refused held found (Stream e) whole lack = refused_by_names held found (Stream e) whole lack
whole_refused held found (BlockHashes b) whole lack = refused_by_names held found (BlockHashes b) whole lack
whole_refused held found (Map e) whole lack = refused_by_names held found (Map e) whole lack
whole_refused held found Failed whole lack = tt
whole_refused held found Memory whole lack = tt

-- ---- what is answered

pub is_taken_whole : (told : Type 0) (held : Held) (r : Result Opened VolumeError) → IfErr r (λ e. told → IsVolumeRefused held e) → IfErr r (λ e. told → (found : Found) → IsWholeVolume held found → IsOfCall e)
is_taken_whole told held (Ok v) refused = tt
is_taken_whole told held (Err e) refused = λ t found whole. whole_refused held found e whole (refused t)

pub is_told : (told : Type 0) (held : Held) (r : Result Opened VolumeError) → IfOk r (λ v. told → IsVolumeOf held v) → told → (e : VolumeError) → IsVolumeRefused held e → ¬ (IsOfCall e) → IsErr r
is_told told held (Ok v) is t e lack named = absurd (named (whole_refused held _ e (is t).whole lack))
is_told told held (Err e) is t f lack named = refl
