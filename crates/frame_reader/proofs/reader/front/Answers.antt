use Rattle.std.proofs.Common.{arith, subst}
use Rattle.frame_text.specs.Codec.{Decodes}
use Rattle.frame_text.specs.Reading.{front}
use Rattle.frame_text.proofs.Laws.{every_front_fits}
use Rattle.frame_reader.proofs.reader.front.Goals as goal

pub returns-clause-fits : goal.returns-clause-fits
returns-clause-fits g c = λ frame size is.
    let v = g.C.FrameCodec.version c.args.codec.now in
    let bytes = c.args.bytes.now in
    every_front_fits v bytes frame size (λ i. omega (arith, c.type_inv.bytes i))
    (subst (λ r. Decodes r bytes c.args.at (front v bytes)) is c.decode.ensures).0
