-- The value of a Duo by its parts.
use Rattle.duo_world.specs.Holding.{DuoState}
use Rattle.duo_world.specs.declared.duo.Duo.TheInside.{Inside}

abbrev pub state_in : Inside → DuoState
state_in d = record {
  terms = record { version = d.version; nonce_a = d.nonce_a; nonce_b = d.nonce_b };
  a = d.a;
  b = d.b;
  steps = d.steps;
  failed = d.failed;
}
