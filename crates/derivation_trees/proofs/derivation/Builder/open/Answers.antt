use Rattle.std.proofs.Common.{rules, ◌≡◌, ◌+◌, ◌≤◌, ◌^◌, [], length, ◌∷◌, ◌++◌, refl, sym, subst, ap, ◌∙◌, arith}
use Rattle.derivation_trees.specs.declared.derivation.Node.{Node}
use Rattle.derivation_trees.specs.Trees.{heads}
use Rattle.derivation_trees.specs.Parts.{AreThere, HaveFewParts}
use Rattle.derivation_trees.specs.Building.{built, alter_at, innermost, with_part}
use Rattle.derivation_trees.proofs.Altering.{opened_is}
use Rattle.derivation_trees.proofs.Opening.{more_few, more_there, put_few, put_longer, opened_few, opened_there}
use Rattle.derivation_trees.proofs.derivation.Builder.open.Goals as goal

pub invariant_of-self-in-Break-branch-2 : goal.invariant_of-self-in-Break-branch-2
invariant_of-self-in-Break-branch-2 c =
    let ns = c.args.self.now.nodes.items in
    let os = c.args.self.now.open.items in
    let ms = c.push.new.self.items in
    let n : Node = record { rule = c.args.rule; variables = c.args.variables; credits = c.args.credits; parts = 0; span = 1 } in
    let p : ms ≡ ns ++ n ∷ [] = search rules in
    let q : c.push-2.new.self.items ≡ os = search rules in
    let l = put_longer ns ms n p in
    record {
      there = subst (λ is. AreThere (length ms) is) (sym q) (more_there (length ns) (length ms) os (omega (arith, l)) c.args.self.now.there);
      few = subst (λ k. HaveFewParts k (heads ms)) (sym l) (put_few ns ms n p refl c.args.self.now.few);
    }

pub add_part-requires : goal.add_part-requires
add_part-requires c =
    let ns = c.args.self.now.nodes.items in
    let n : Node = record { rule = c.args.rule; variables = c.args.variables; credits = c.args.credits; parts = 0; span = 1 } in
    let p : c.push.new.self.items ≡ ns ++ n ∷ [] = search rules in
    let a = c.args.self.now.nodes.ok.0 in
    let b = c.args.self.now.nodes.ok.1 in
    let s = c.args.self.now.nodes.small in
    record { few = more_few (length ns + 1) (2 ^ 63) (heads c.push.new.self.items) (omega (arith, a, b, s)) (put_few ns c.push.new.self.items n p refl c.args.self.now.few) }

pub invariant_of-self-2 : goal.invariant_of-self-2
invariant_of-self-2 c =
    let ns = c.args.self.now.nodes.items in
    let os = c.args.self.now.open.items in
    let ms = c.push.new.self.items in
    let n : Node = record { rule = c.args.rule; variables = c.args.variables; credits = c.args.credits; parts = 0; span = 1 } in
    let p : ms ≡ ns ++ n ∷ [] = search rules in
    let q : c.push-2.new.self.items ≡ os ++ length ns ∷ [] = search rules in
    let e : heads c.add_part.new.nodes.items ≡ alter_at with_part (innermost os) (heads ms) = search rules in
    let l : length c.add_part.new.nodes.items ≡ length ns + 1 = c.add_part.ensures.length ∙ put_longer ns ms n p in
    record {
      there = subst (λ k. AreThere k c.push-2.new.self.items) (sym l) (opened_there (length ns) os c.push-2.new.self.items q c.args.self.now.there);
      few = subst (λ k. HaveFewParts k (heads c.add_part.new.nodes.items)) (sym l)
          (subst (λ hs. HaveFewParts (length ns + 1) hs) (sym e) (opened_few ns ms n os p refl c.args.self.now.there c.args.self.now.few));
    }

pub returns : goal.returns
returns c = record {
  opened = (
      let ns = c.args.self.now.nodes.items in
      let os = c.args.self.now.open.items in
      let n : Node = record { rule = c.args.rule; variables = c.args.variables; credits = c.args.credits; parts = 0; span = 1 } in
      let p : c.push.new.self.items ≡ ns ++ n ∷ [] = search rules in
      let q : c.push-2.new.self.items ≡ os ++ length ns ∷ [] = search rules in
      let e : heads c.add_part.new.nodes.items ≡ alter_at with_part (innermost os) (heads c.push.new.self.items) = search rules in
      ap (λ is. record { nodes = heads c.add_part.new.nodes.items; open_at = is }) q
      ∙ opened_is (built c.args.self.now) ns n (heads c.add_part.new.nodes.items) c.args.rule c.args.variables.items c.args.credits.items refl c.args.self.now.there (e ∙ ap (λ ms. alter_at with_part (innermost os) (heads ms)) p) refl);
}
