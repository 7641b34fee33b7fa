-- Why a folder is refused as a volume.
use Rattle.std.specs.Prelude.{◌≡◌, ◌⊎◌, ⊤, ℕ, List, None, Some}
use Rattle.std.specs.FinMap.{get}
use Rattle.aff_model.specs.Held.{Held, bytes_of}
use Rattle.aff_model.specs.Plan.{chunk_count}
use Rattle.aff_spec.specs.Names.{map_name, idx_name}
use Rattle.aff_turtle.specs.declared.error.TurtleError.{TurtleError}
use Rattle.aff_turtle.specs.Triples.{Fact}
use Rattle.aff_turtle.specs.Reading.{IsTurtle}
use Rattle.aff_turtle.specs.Reading as turtle
use Rattle.aff_info.specs.declared.error.InfoError.{InfoError}
use Rattle.aff_info.specs.declared.error.InfoError.TheVariants as infos
use Rattle.aff_info.specs.declared.info.Info.{Info as InfoOf}
use Rattle.aff_info.specs.Found.{Found}
use Rattle.aff_info.specs.Reading.{IsError}
use Rattle.aff_bevvy.specs.declared.error.StreamError.{StreamError}
use Rattle.aff_bevvy.specs.declared.error.StreamError.TheVariants as streams
use Rattle.aff_bevvy.specs.Segments.{held_length}
use Rattle.aff_bevvy.specs.Streams.{IsStream}
use Rattle.aff_bevvy.specs.Faults as stream
use Rattle.aff_map.specs.declared.error.MapError.{MapError}
use Rattle.aff_map.specs.Refusals.{IsMapFault}
use Rattle.aff_finish.specs.Container.{information_name}
use Rattle.aff_finish.specs.Named.{IsNamed}
use Rattle.aff_volume.specs.Hashed.{AreHashed, IsFirstUnhashed}
use Rattle.aff_volume.specs.Opened.{HasMap}
use Rattle.aff_volume.specs.declared.error.VolumeError.{VolumeError}
use Rattle.aff_volume.specs.declared.error.VolumeError.TheVariants.{NoInformation, Turtle, Info, NoMap, Stream, BlockHashes, Map, Failed, Memory}

-- want of memory is no refusal of statements
abbrev pub SaysOfStatements : InfoError → Type 0
SaysOfStatements infos.Memory = ⊥
SaysOfStatements e = ⊤

-- neither is it one of a stream, nor is a folder that failed
abbrev pub SaysOfStream : StreamError → Type 0
SaysOfStream streams.Failed = ⊥
SaysOfStream streams.Memory = ⊥
SaysOfStream e = ⊤

-- the text of the metadata is refused
pub record IsNoText (held : Held) (e : TurtleError) : Type 0 where
  pub text : List ℕ
  pub there : get held information_name ≡ Some text
  pub refused : turtle.IsRefused text e

-- the text says statements that are no metadata
pub record IsNoInfo (held : Held) (e : InfoError) : Type 0 where
  pub text : List ℕ
  pub there : get held information_name ≡ Some text
  pub facts : List Fact
  pub turtle : IsTurtle text facts
  pub refused : IsError facts e
  pub named : SaysOfStatements e

-- the map of the image or the list of its targets is not there
abbrev pub LacksMap : Held → InfoOf → Type 0
LacksMap held info = (get held (map_name info.image) ≡ None) ⊎ (get held (idx_name info.image) ≡ None)

-- both are there, and the stream is refused
pub record IsNoStream (held : Held) (info : InfoOf) (e : StreamError) : Type 0 where
  pub tables : HasMap held info.image
  pub refused : stream.IsStreamRefused held info.stream info.stream_size e
  pub named : SaysOfStream e

-- the stream is there, and a bevvy is the first one that lacks block hashes
pub record IsNotHashed (held : Held) (info : InfoOf) (b : ℕ) : Type 0 where
  pub tables : HasMap held info.image
  pub stream : IsStream held info.stream info.stream_size
  pub first : IsFirstUnhashed (held_length held) info.stream (chunk_count info.stream_size) b

-- all block hashes are there, and the map is refused
pub record IsNoMap (held : Held) (info : InfoOf) (e : MapError) : Type 0 where
  pub tables : HasMap held info.image
  pub stream : IsStream held info.stream info.stream_size
  pub hashed : AreHashed (held_length held) info.stream (chunk_count info.stream_size)
  pub refused : IsMapFault (bytes_of held (map_name info.image)) (bytes_of held (idx_name info.image)) info.image_size info.stream info.stream_size e

-- what is named is refused, first of all that is asked for: the tables, the stream, the block hashes, the map
abbrev pub IsAbsent : Held → InfoOf → VolumeError → Type 0
IsAbsent held info NoMap = LacksMap held info
IsAbsent held info (Stream e) = IsNoStream held info e
IsAbsent held info (BlockHashes b) = IsNotHashed held info b
IsAbsent held info (Map e) = IsNoMap held info e
IsAbsent held info Failed = ⊤
IsAbsent held info Memory = ⊤
IsAbsent held info NoInformation = ⊥
IsAbsent held info (Turtle e) = ⊥
IsAbsent held info (Info e) = ⊥

-- a folder has metadata of which this holds
abbrev pub Names : Held → (InfoOf → Type 0) → Type 0
Names held P = (found : Found) × IsNamed held found × P found.info

-- the first refusal that a folder meets, in their order; a folder that failed and want of memory say nothing of what it holds
abbrev pub IsVolumeRefused : Held → VolumeError → Type 0
IsVolumeRefused held NoInformation = get held information_name ≡ None
IsVolumeRefused held (Turtle e) = IsNoText held e
IsVolumeRefused held (Info e) = IsNoInfo held e
IsVolumeRefused held NoMap = Names held (λ info. IsAbsent held info NoMap)
IsVolumeRefused held (Stream e) = Names held (λ info. IsAbsent held info (Stream e))
IsVolumeRefused held (BlockHashes b) = Names held (λ info. IsAbsent held info (BlockHashes b))
IsVolumeRefused held (Map e) = Names held (λ info. IsAbsent held info (Map e))
IsVolumeRefused held Failed = ⊤
IsVolumeRefused held Memory = ⊤

-- an answer that says nothing of what the folder holds
abbrev pub IsOfCall : VolumeError → Type 0
IsOfCall Failed = ⊤
IsOfCall Memory = ⊤
IsOfCall e = ⊥
