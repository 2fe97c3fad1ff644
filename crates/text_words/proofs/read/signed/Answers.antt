use Rattle.std.proofs.Common.{lit<, sym, w64, FitsSigned}
use Rattle.std.proofs.lemmas.Int.{to_z-of_z}
use Rattle.std.proofs.lemmas.Str.Pattern.{strip_prefix_char}
use Rattle.text_words.specs.Bytes.{minus}
use Rattle.text_words.proofs.Signs.{signed_in-none, signed_in-number}
use Rattle.text_words.proofs.read.signed.Goals as goal

pub returns-in_err-number-in-None : goal.returns-in_err-number-in-None
returns-in_err-number-in-None c =
    let word = c.args.word.now in
    let plain = rw c.in-None.is at (strip_prefix_char minus word c.strip_prefix.result c.strip_prefix.ensures.cases (lit< tt)) in
    rw c.from_residual-in_err-number-in-None.ensures (sym (signed_in-none word plain (sym c.in_err-number-in-None.ensures)))

pub returns-in_ok-number-in-None : goal.returns-in_ok-number-in-None
returns-in_ok-number-in-None c =
    let word = c.args.word.now in
    let number = c.from-in-None.result in
    let fits : FitsSigned w64 number = record { sfits = c.from-in-None.type_inv } in
    let plain = rw c.in-None.is at (strip_prefix_char minus word c.strip_prefix.result c.strip_prefix.ensures.cases (lit< tt)) in
    rw (to_z-of_z w64 number fits, c.from-in-None.ensures) (sym (signed_in-number word c.in_ok-number-in-None.field-0 plain (sym c.in_ok-number-in-None.ensures)))
