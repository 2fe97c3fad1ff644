use Rattle.std.proofs.Common.{◌≡◌, false, map, sym, ap, ◌∙◌, Some}
use Rattle.std.specs.Str.{bytes_eq}
use Rattle.wire_base.specs.Tree.{items, pairs, trees_of, pairs_of}
use Rattle.wire_base.specs.View.{tree_of}
use Rattle.rpc_items.specs.declared.calls.Arguments.TheVariants.{List as Listed, Named}
use Rattle.text_words.specs.Written.{hyphen}
use Rattle.text_words.specs.Json.{arg_of, json_in}
use Rattle.text_words.proofs.ArgumentLists.{arguments_in-items, arguments_in-pairs}
use Rattle.text_words.proofs.json_texts.arguments.Goals as goal

pub returns-in-Items : goal.returns-in-Items
returns-in-Items c =
    let some : bytes_eq c.args.text.now hyphen ≡ false = sym c.eq.ensures ∙ c.if-eq.false in
    let shape : c.in-Some.value ≡ items (trees_of c.in-Items.values) = sym c.value.view_is ∙ ap tree_of c.in-Items.is in
    let read : json_in c.args.text.now ≡ Some (items (trees_of c.in-Items.values)) = sym c.in_ok-value.ensures ∙ c.in-Some.is ∙ ap Some shape in
    let is = arguments_in-items c.args.text.now c.in-Items.values some read in
    rw is (ap (λ args. Some (Listed args)) (c.in_ok-arguments_of-in-Items.ensures ∙ ap (map arg_of) c.in-Items.values-is))

pub returns-in-Pairs : goal.returns-in-Pairs
returns-in-Pairs c =
    let some : bytes_eq c.args.text.now hyphen ≡ false = sym c.eq.ensures ∙ c.if-eq.false in
    let shape : c.in-Some.value ≡ pairs (pairs_of c.in-Pairs.members) = sym c.value.view_is ∙ ap tree_of c.in-Pairs.is in
    let read : json_in c.args.text.now ≡ Some (pairs (pairs_of c.in-Pairs.members)) = sym c.in_ok-value.ensures ∙ c.in-Some.is ∙ ap Some shape in
    let is = arguments_in-pairs c.args.text.now c.in-Pairs.members some read in
    rw is (ap (λ members. Some (Named members)) c.in-Pairs.members-is)
