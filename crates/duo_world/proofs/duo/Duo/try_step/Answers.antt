use Rattle.std.proofs.Common.{◌∙◌, ap, subst, refl, false}
use Rattle.duo_world.specs.Holding.{DuoState}
use Rattle.duo_world.specs.Stepping.{IsStepped}
use Rattle.duo_world.proofs.Worlds.{between_steps, stepped}
use Rattle.duo_world.proofs.duo.Duo.try_step.Goals as goal

pub invariant_of-self-2 : goal.invariant_of-self-2
invariant_of-self-2 c = λ works.
    let working = c.self.invariant (ap (λ d. d.failed) c.self.view_is ∙ c.requires) in
    (stepped _ _ c.args.step c.in_ok-reply.reply working refl c.in_ok-push.ensures.ok refl (c.in_ok-reply.ensures _ _ (between_steps _ working))).1

pub returns-clause-ok : goal.returns-clause-ok
returns-clause-ok c =
    let working = c.self.invariant (ap (λ d. d.failed) c.self.view_is ∙ c.requires) in
    let new : DuoState = record {
      terms = record { version = c.self.inside.version; nonce_a = c.self.inside.nonce_a; nonce_b = c.self.inside.nonce_b };
      a = c.make_step.new.a;
      b = c.make_step.new.b;
      steps = c.push.new.self;
      failed = false;
    } in
    subst (λ d. IsStepped d new c.args.step c.in_ok-reply.reply) c.self.view_is
    (stepped _ new c.args.step c.in_ok-reply.reply working refl c.in_ok-push.ensures.ok refl (c.in_ok-reply.ensures _ _ (between_steps _ working))).0
