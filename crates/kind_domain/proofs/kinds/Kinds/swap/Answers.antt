use Rattle.std.proofs.Common.{ap, ◌∙◌, sym, map, length, arith}
use Rattle.kind_domain.specs.Owners.{rooted, swapped}
use Rattle.kind_domain.specs.Views.{kinds_of}
use Rattle.kind_domain.proofs.Naming.{all_swapped, name_within, named_long, names_swapped, number_get}
use Rattle.kind_domain.specs.Owners.{number_at}
use Rattle.kind_domain.proofs.kinds.Kinds.swap.Goals as goal

pub invariant_of-self : goal.invariant_of-self
invariant_of-self c =
    let os = c.self.inside.owners.items in
    let ns = c.self.inside.names.items in
    let n = length c.self.inside.items.items in
    let a = c.args.one in
    let b = c.args.other in
    let f = c.index-first.result.now in
    let s = c.index-second.result.now in
    let l = named_long (number_at os) c.self.inside.items.items in
    let v = ap length c.self.view_is in
    let p = c.self.invariant.names_long in
    let la = c.requires.one in
    let lb = c.requires.other in
    let i = c.index-first.ensures ∙ sym (number_get ns a f (omega arith)) in
    let j = c.index-second.ensures ∙ sym (number_get ns b s (omega arith)) in
    let fa = name_within n os ns a c.self.invariant (omega arith) in
    let sb = name_within n os ns b c.self.invariant (omega arith) in
    names_swapped n os ns a b f s c.self.invariant i j (omega arith) (omega arith) (omega arith) (omega arith)

pub returns : goal.returns
returns c =
    let os = c.self.inside.owners.items in
    let ns = c.self.inside.names.items in
    let n = length c.self.inside.items.items in
    let a = c.args.one in
    let b = c.args.other in
    let f = c.index-first.result.now in
    let s = c.index-second.result.now in
    let l = named_long (number_at os) c.self.inside.items.items in
    let v = ap length c.self.view_is in
    let p = c.self.invariant.names_long in
    let la = c.requires.one in
    let lb = c.requires.other in
    let i = c.index-first.ensures ∙ sym (number_get ns a f (omega arith)) in
    let j = c.index-second.ensures ∙ sym (number_get ns b s (omega arith)) in
    let fa = name_within n os ns a c.self.invariant (omega arith) in
    let sb = name_within n os ns b c.self.invariant (omega arith) in
    record {
      is = all_swapped n os ns a b f s (kinds_of c.self.inside.items.items) c.self.invariant i j (omega arith) (omega arith)
          ∙ ap (map (rooted (swapped a b))) c.self.view_is;
    }
