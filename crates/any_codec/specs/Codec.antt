-- The codec of a version that is known only as the program runs.
use Rattle.wire_base.specs.declared.frame.Version.{Version}
use Rattle.wire_base.specs.declared.frame.Version.TheVariants.{One}
use Rattle.any_codec.specs.declared.codec.AnyCodec.{AnyCodec}
use Rattle.any_codec.specs.declared.codec.AnyCodec.TheVariants.{Plain, Packed}

-- the version that it reads and writes
abbrev pub version_of : AnyCodec → Version
version_of (Plain codec) = One
version_of (Packed v) = v
