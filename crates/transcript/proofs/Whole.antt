-- A whole report from its parts.
use Rattle.std.proofs.Common.{◌≡◌, ℕ, List, [], ◌++◌, codes, ◌∙◌, sym, ap, subst}
use Rattle.std.proofs.lemmas.List.{append-nil}
use Rattle.frame_text.specs.Hello.{hello}
use Rattle.mux_run.specs.declared.steps.Side.{Side}
use Rattle.mux_run.specs.declared.steps.Side.TheVariants.{A, B}
use Rattle.mux_run.specs.Run.{Terms}
use Rattle.endpoint_items.specs.Items.{EndItem}
use Rattle.endpoint_run.specs.declared.steps.Step.{Step}
use Rattle.endpoint_run.specs.Answers.{run}
use Rattle.endpoint_run.specs.Run.{start}
use Rattle.endpoint.specs.Stands.{Stands}
use Rattle.endpoint.specs.Value.{EndpointValue}
use Rattle.duo_world.specs.Holding.{DuoState, StandForWorld, StandsForRun}
use Rattle.transcript.specs.Words.{emitted_line}
use Rattle.transcript.specs.Report.{steps_lines, opening_lines, closing_lines, summary, report_text}
use Rattle.transcript.specs.Ran.{HasRun}
use Rattle.transcript.proofs.Joined.{joined_three, joined_four}

-- before the first step the handshakes are on their way
pub opening_is : (d : DuoState) (all m₁ m₂ m₃ : List ℕ) → d.steps ≡ [] → StandsForRun d → m₁ ≡ all ++ codes "report 1\n0 start\n"
    → m₂ ≡ m₁ ++ emitted_line A d.a.mux.output → m₃ ≡ m₂ ++ emitted_line B d.b.mux.output → m₃ ≡ all ++ opening_lines d.terms
opening_is d all m₁ m₂ m₃ fresh stands h₁ h₂ h₃ =
    let s : StandForWorld d.terms d.a d.b (run d.terms []) = subst (λ steps. StandForWorld d.terms d.a d.b (run d.terms steps)) fresh stands in
    let a : d.a.mux.output ≡ hello d.terms.version d.terms.nonce_a = s.at_own.output ∙ append-nil (hello d.terms.version d.terms.nonce_a) in
    let b : d.b.mux.output ≡ hello d.terms.version d.terms.nonce_b = s.at_peer.output ∙ append-nil (hello d.terms.version d.terms.nonce_b) in
    joined_three all _ _ _ m₁ m₂ m₃ h₁ (h₂ ∙ ap (λ bs. m₁ ++ emitted_line A bs) a) (h₃ ∙ ap (λ bs. m₂ ++ emitted_line B bs) b)

-- the parts of a report, told one after the other
pub report_is : (terms : Terms) (steps : List Step) (old new : DuoState) (all m₁ m₂ m₃ : List ℕ) → old.terms ≡ terms → HasRun old.terms steps new
    → m₁ ≡ all ++ opening_lines old.terms → m₂ ≡ m₁ ++ steps_lines old.terms 1 start steps → m₃ ≡ m₂ ++ closing_lines new.terms (run new.terms new.steps) → m₃ ≡ all ++ report_text terms steps
report_is terms steps old new all m₁ m₂ m₃ same ran h₁ h₂ h₃ =
    joined_three all _ _ _ m₁ m₂ m₃ h₁ h₂ (h₃ ∙ (ap (λ t. m₂ ++ closing_lines t (run t new.steps)) ran.terms_are ∙ ap (λ ss. m₂ ++ closing_lines old.terms (run old.terms ss)) ran.stored))
    ∙ ap (λ t. all ++ report_text t steps) same

-- the same of the terms with which a world began
pub has_run : (terms : Terms) (steps : List Step) (old new : DuoState) → old.terms ≡ terms → HasRun old.terms steps new → HasRun terms steps new
has_run terms steps old new same ran = subst (λ t. HasRun t steps new) same ran

-- the summary of an end that is the one of a world
pub summary_told : (end own : EndpointValue) (side : Side) (items : List EndItem) (at : ℕ) (rest told now : List ℕ) → end ≡ own → Stands own items at rest
    → ((items : List EndItem) (at : ℕ) (rest : List ℕ) → Stands end items at rest → now ≡ told ++ summary end.mux.version side items) → now ≡ told ++ summary own.mux.version side items
summary_told end own side items at rest told now is stands tells =
    tells items at rest (subst (λ e. Stands e items at rest) (sym is) stands) ∙ ap (λ e. told ++ summary e.mux.version side items) is

-- how both sides stand
pub closing_is : (d : DuoState) (all m₁ m₂ m₃ m₄ : List ℕ) → StandsForRun d → m₁ ≡ all ++ codes "state\n"
    → m₂ ≡ m₁ ++ summary d.a.mux.version A (run d.terms d.steps).a.items → m₃ ≡ m₂ ++ summary d.b.mux.version B (run d.terms d.steps).b.items → m₄ ≡ m₃ ++ codes "end\n"
    → m₄ ≡ all ++ closing_lines d.terms (run d.terms d.steps)
closing_is d all m₁ m₂ m₃ m₄ stands h₁ h₂ h₃ h₄ =
    let w = run d.terms d.steps in
    joined_four all _ _ _ _ m₁ m₂ m₃ m₄ h₁ (h₂ ∙ ap (λ v. m₁ ++ summary v A w.a.items) stands.at_own.version) (h₃ ∙ ap (λ v. m₂ ++ summary v B w.b.items) stands.at_peer.version) h₄
