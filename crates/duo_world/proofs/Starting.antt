-- Two ends before the first step.
use Rattle.std.proofs.Common.{◌≡◌, ℕ, List, [], sym, ◌∙◌, subst, arith}
use Rattle.std.proofs.lemmas.List.{append-nil}
use Rattle.wire_base.specs.declared.frame.Version.{Version}
use Rattle.wire_base.specs.declared.frame.Version.TheVariants.{One, Two, Three}
use Rattle.frame_text.specs.Hello.{hello}
use Rattle.mux_run.specs.Run.{RunSide, SideTerms, Terms}
use Rattle.endpoint_run.specs.declared.steps.Step.{Step}
use Rattle.endpoint_run.specs.Answers.{run}
use Rattle.endpoint_run.specs.Run.{fresh}
use Rattle.endpoint.specs.Replies.{IsStarted}
use Rattle.endpoint.specs.Stands.{Stands}
use Rattle.endpoint.specs.Value.{EndpointValue}
use Rattle.duo_world.specs.Holding.{place_of, rest_of, StandsForSide, StandForWorld}
use Rattle.duo_world.specs.Stepping.{RunHolds}
use Rattle.duo_world.proofs.Worlds.{run_holds}

abbrev side_terms : Version → (own peer : List ℕ) → SideTerms
side_terms v own peer = record { version = v; own = own; peer = peer }

-- a multiplexing end at which nothing happened
abbrev unused : RunSide
unused = record { items = []; delivered = 0 }

begins_at : (v : Version) (own peer : List ℕ) (end : EndpointValue) → Stands end [] 0 [] → Stands end [] (place_of (side_terms v own peer) unused unused) (rest_of (side_terms v own peer) unused unused)
begins_at One own peer end s = s
begins_at Two own peer end s = s
begins_at Three own peer end s = s

side_begins : (v : Version) (own peer : List ℕ) (end : EndpointValue) → IsStarted v own end → StandsForSide (side_terms v own peer) end fresh unused
side_begins v own peer end s = record {
  stands = begins_at v own peer end s.stands;
  in_range = tt;
  output = s.output ∙ sym (append-nil (hello v own));
  bound = omega arith;
  version = s.version;
  nonce = s.own_nonce;
}

pub begun_holds : (terms : Terms) (steps : List Step) (a b : EndpointValue) → steps ≡ [] → IsStarted terms.version terms.nonce_a a → IsStarted terms.version terms.nonce_b b → RunHolds terms steps
begun_holds terms steps a b none s t =
    let stand : StandForWorld terms a b (run terms []) = record {
      at_own = side_begins terms.version terms.nonce_a terms.nonce_b a s;
      at_peer = side_begins terms.version terms.nonce_b terms.nonce_a b t;
    } in
    run_holds terms steps a b (subst (λ steps. StandForWorld terms a b (run terms steps)) (sym none) stand)
