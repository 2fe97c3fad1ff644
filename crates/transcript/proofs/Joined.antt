-- Texts behind another, one after the other.
use Rattle.std.proofs.Common.{◌≡◌, ℕ, List, ◌++◌, ◌∙◌, append_assoc}

pub joined_three : (all a b c m₁ m₂ m₃ : List ℕ) → m₁ ≡ all ++ a → m₂ ≡ m₁ ++ b → m₃ ≡ m₂ ++ c → m₃ ≡ all ++ (a ++ b ++ c)
joined_three all a b c m₁ m₂ m₃ h₁ h₂ h₃ =
    let whole : m₃ ≡ ((all ++ a) ++ b) ++ c = cc in
    let regrouped : ((all ++ a) ++ b) ++ c ≡ all ++ (a ++ b ++ c) = simp append_assoc in
    whole ∙ regrouped

pub joined_four : (all a b c d m₁ m₂ m₃ m₄ : List ℕ) → m₁ ≡ all ++ a → m₂ ≡ m₁ ++ b → m₃ ≡ m₂ ++ c → m₄ ≡ m₃ ++ d → m₄ ≡ all ++ (a ++ b ++ c ++ d)
joined_four all a b c d m₁ m₂ m₃ m₄ h₁ h₂ h₃ h₄ =
    let whole : m₄ ≡ (((all ++ a) ++ b) ++ c) ++ d = cc in
    let regrouped : (((all ++ a) ++ b) ++ c) ++ d ≡ all ++ (a ++ b ++ c ++ d) = simp append_assoc in
    whole ∙ regrouped

pub joined_six : (all a b c d e f m₁ m₂ m₃ m₄ m₅ m₆ : List ℕ) → m₁ ≡ all ++ a → m₂ ≡ m₁ ++ b → m₃ ≡ m₂ ++ c → m₄ ≡ m₃ ++ d → m₅ ≡ m₄ ++ e → m₆ ≡ m₅ ++ f → m₆ ≡ all ++ (a ++ b ++ c ++ d ++ e ++ f)
joined_six all a b c d e f m₁ m₂ m₃ m₄ m₅ m₆ h₁ h₂ h₃ h₄ h₅ h₆ =
    let whole : m₆ ≡ (((((all ++ a) ++ b) ++ c) ++ d) ++ e) ++ f = cc in
    let regrouped : (((((all ++ a) ++ b) ++ c) ++ d) ++ e) ++ f ≡ all ++ (a ++ b ++ c ++ d ++ e ++ f) = simp append_assoc in
    whole ∙ regrouped
