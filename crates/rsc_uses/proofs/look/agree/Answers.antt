use Rattle.std.proofs.Common.{rules, ◌∷◌, [], arith}
use Rattle.std.proofs.lemmas.List.Elements.{Contains-push}
use Rattle.rsc_uses.proofs.LookLemmas.{bytes_all}
use Rattle.rsc_uses.proofs.look.agree.Goals as goal

pub returns : goal.returns
returns g c =
    let t = c.args.matcher.now.0 in
    let W = g.W.WordClass.word_chars c.args.matcher.now.1 in
    let hs = bytes_all c.args.haystack.now (λ i. omega (arith, c.type_inv.haystack i)) in
    let ks = bytes_all c.args.other.now (λ i. omega (arith, c.type_inv.other i)) in
    let same = c.same_classes_change_nothing.ensures.bytes c.args.map.now (c.args.look ∷ []) t W c.requires.map c.args.look (Contains-push [] c.args.look)
    c.requires.bytes c.args.haystack.now
    c.args.other.now hs ks c.requires.len c.requires.one_class c.args.at c.requires.at in
    grind (rules, same)
