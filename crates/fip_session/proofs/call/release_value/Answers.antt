use Rattle.std.proofs.Common.{[], ◌∷◌, arith}
use Rattle.fip_language.specs.Store.{uses}
use Rattle.fip_machine.specs.machine_cells.Small.{store_of}
use Rattle.std.proofs.lemmas.Result.{on_ok_weaker}
use Rattle.fip_session.specs.Gone.{lent_of}
use Rattle.fip_session.proofs.GivingUp.{up_same, up_none, lent_one, lent_no}
use Rattle.fip_session.proofs.call.release_value.Goals as goal

pub returns-then-value-clause-gone : goal.returns-then-value-clause-gone
returns-then-value-clause-gone c = λ small st x stands word apart.
    let old = c.args.cells.now in
    let f = c.args.value.now in
    let is_so = c.if-value.true in
    on_ok_weaker c.release_held.result (λ g. up_same (λ q. uses q x) (lent_of (f ∷ []) (x ∷ [])) (store_of old.cells old.released) (store_of c.release_held.new.cells.cells c.release_held.new.cells.released) (λ q. lent_one f x q is_so) g)
    (c.release_held.ensures.gone small st x (stands is_so) word (λ q. (let a = apart q in let e = lent_one f x q is_so in omega (arith, a, e))))

pub returns-else-value-clause-gone : goal.returns-else-value-clause-gone
returns-else-value-clause-gone c = λ small st x stands word apart.
    let old = c.args.cells.now in
    up_same (λ q. 0) (lent_of (c.args.value.now ∷ []) (x ∷ [])) (store_of old.cells old.released) (store_of old.cells old.released) (λ q. lent_no c.args.value.now x q c.if-value.false) (up_none (store_of old.cells old.released))
