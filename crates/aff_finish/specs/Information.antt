-- What a finished volume says of itself.
use Rattle.std.specs.Prelude.{ℕ, ◌*◌, List}
use Rattle.aff_model.specs.declared.limits.TheConstants.{CHUNK}
use Rattle.aff_map.specs.declared.target.Target.TheVariants.{Unknown}
use Rattle.aff_spec.specs.Names.{volume_urn, stream_urn, image_urn}
use Rattle.aff_turtle.specs.Written.{written}
use Rattle.aff_info.specs.Writing.{facts_of}
use Rattle.aff_info.specs.declared.info.Info.{Info}
use Rattle.aff_finish.specs.declared.hashes.Hashes.{Hashes}

-- the metadata of a volume whose image has so many bytes, and whose stream has n chunks
abbrev pub info_of : List ℕ → ℕ → ℕ → Hashes → Info
info_of uuid size n hashes = record {
  volume = volume_urn uuid;
  stream = stream_urn uuid;
  image = image_urn uuid;
  stream_size = CHUNK * n;
  image_size = size;
  gap = Unknown;
  linear = hashes.linear;
  block_map = hashes.block_map;
}

-- the text that states them
abbrev pub information : List ℕ → ℕ → ℕ → Hashes → List ℕ
information uuid size n hashes = written (facts_of (info_of uuid size n hashes))
