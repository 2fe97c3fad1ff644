use Rattle.std.proofs.Common.{◌≡◌, true, ap, subst}
use Rattle.frame_text.specs.Frames.{fits}
use Rattle.frame_reader.specs.Unread.{Unread}
use Rattle.frame_reader.proofs.reader.FrameReader.front.Goals as goal

pub returns-clause-fits : goal.returns-clause-fits
returns-clause-fits g c = λ frame size is.
    subst (λ v. fits v frame ≡ true) (ap (λ (r : Unread). r.version) c.self.view_is) (c.front.ensures.fits frame size is)
