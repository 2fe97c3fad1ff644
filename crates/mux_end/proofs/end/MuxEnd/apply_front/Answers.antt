use Rattle.std.proofs.Common.{◌≡◌, true, ◌∙◌, ap, subst}
use Rattle.frame_text.specs.Frames.{fits}
use Rattle.mux_end.specs.Stands.{EndValue}
use Rattle.mux_end.proofs.end.MuxEnd.apply_front.Goals as goal

pub apply-requires-clause-fits : goal.apply-requires-clause-fits
apply-requires-clause-fits c =
    let one_version = c.self.invariant.one_version ∙ ap (λ (e : EndValue). e.version) c.self.view_is in
    subst (λ v. fits v c.in-Got.frame ≡ true) one_version (c.front.ensures.fits c.in-Got.frame c.in-Got.size c.in-Got.is)
