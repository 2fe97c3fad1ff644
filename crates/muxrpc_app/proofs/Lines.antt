-- The line of a status is what was written.
use Rattle.std.proofs.Common.{◌≡◌, ℕ, List, ◌++◌, Option, Result, sym, ◌∙◌, subst, ap, codes}
use Rattle.std.specs.Fmt.{decimal}
use Rattle.std.specs.Prelude.{OnOk, OnErr}
use Rattle.std.specs.Io.KnownBytes.{append_known}
use Rattle.muxrpc_app.specs.Streams.{WroteFront}
use Rattle.muxrpc_app.specs.StatusText.{status_text}
use Rattle.muxrpc_app.specs.declared.status.Status.{Status}

line_is : (s k : Status) (text : List ℕ) → s ≡ k → text ≡ status_text k → text ≡ status_text s
line_is s k text e is = is ∙ ap status_text (sym e)

pub line_written : {X E : Type 0} (r : Result X E) (given now : Option (List ℕ)) (s k : Status) (text : List ℕ) → s ≡ k → text ≡ status_text k
    → OnOk r (now ≡ append_known given text) → OnOk r (now ≡ append_known given (status_text s))
line_written r given now s k text e is h =
    let P : List ℕ → Type 0 = λ line. OnOk r (now ≡ append_known given line) in
    subst P (line_is s k text e is) h

pub line_front : {X E : Type 0} (r : Result X E) (given now : Option (List ℕ)) (s k : Status) (text : List ℕ) → s ≡ k → text ≡ status_text k
    → OnErr r (WroteFront given now text) → OnErr r (WroteFront given now (status_text s))
line_front r given now s k text e is h =
    let P : List ℕ → Type 0 = λ line. OnErr r (WroteFront given now line) in
    subst P (line_is s k text e is) h

-- the line of a refused stream, from its parts
pub stream_line : (place number name : List ℕ) (at number_is : ℕ) (called : List ℕ) → place ≡ decimal at → number ≡ decimal number_is → name ≡ called
    → codes "muxrpc: " ++ (codes "refused at " ++ (place ++ (codes ": " ++ (number ++ (codes " " ++ (name ++ codes "\n"))))))
    ≡ codes "muxrpc: " ++ (codes "refused at " ++ (decimal at ++ (codes ": " ++ (decimal number_is ++ (codes " " ++ (called ++ codes "\n"))))))
stream_line place number name at number_is called e f g = cc
