use Rattle.std.proofs.Common.{◌≡◌, ◌-◌, length}
use Rattle.any_codec.specs.Codec.{version_of}
use Rattle.stream_view.proofs.Told.{IsTold}
use Rattle.stream_view.proofs.view.push_stream.Given as goal

abbrev pub invariant-frames : goal.invariant-frames
invariant-frames l = record {
  codec : version_of l.codec ≡ l.fn.version;
  told : IsTold l.fn.version l.fn.size l.fn.bytes l.fn.out.items l.out.items l.at;
}

abbrev pub decreases-frames : goal.decreases-frames
decreases-frames l = length l.bytes - l.at
