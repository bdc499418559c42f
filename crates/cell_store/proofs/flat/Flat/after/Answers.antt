-- The next cell begins right after the fields of this one.
use Rattle.std.proofs.Common.{◌≡◌, ◌≢◌, ◌+◌, ◌<◌, ◌≤◌, ℕ, None, arith, ap, subst, length}
use Rattle.cell_store.specs.Cells.{IsAfter, cell_at, size_of}
use Rattle.cell_store.specs.Flat.{parse}
use Rattle.cell_store.specs.Made.{Stored}
use Rattle.cell_store.proofs.Parsed.{known, next, none_after, length_parse, if_some, if_none, read_size}
use Rattle.cell_store.proofs.flat.Flat.after.Goals as goal

pub returns-in-Some-clause-there : goal.returns-in-Some-clause-there
returns-in-Some-clause-there c =
    let ws = c.self.inside.words.items in
    let p = c.in-Some.p in
    let there : cell_at (parse 0 ws) p ≢ None = rw (← c.self.view_is) at c.requires p c.in-Some.is in
    let k = known 0 ws p c.self.invariant.laid there in
    let size : c.cell_size.result ≡ size_of k.cell = read_size (cell_at (parse 0 ws) p) k.cell c.cell_size.result k.is (rw (← c.self.view_is) at c.cell_size.ensures.size) in
    let long = length_parse 0 ws in
    let cells : length (parse 0 ws) ≡ length c.args.self.now.cells = ap (λ (s : Stored). length s.cells) c.self.view_is in
    if_some c.cell_from.result (λ q. (q ≡ p + 1 + c.cell_size.result) × (p + 1 + c.cell_size.result < length c.args.self.now.cells)) (λ q. cell_at c.args.self.now.cells q ≢ None)
    (λ q f. let e = f.0 in let less = f.1 in subst (λ n. cell_at c.args.self.now.cells n ≢ None) (let z : p + 1 + size_of k.cell ≡ q = omega (arith, e, size) in z)
    (subst (λ (s : Stored). cell_at s.cells (p + 1 + size_of k.cell) ≢ None) c.self.view_is ((next 0 ws p k.cell c.self.invariant.laid k.is).there (omega (arith, less, size, long, cells)))))
    c.cell_from.ensures.some

pub returns-in-Some-clause-first : goal.returns-in-Some-clause-first
returns-in-Some-clause-first c =
    let ws = c.self.inside.words.items in
    let p = c.in-Some.p in
    let there : cell_at (parse 0 ws) p ≢ None = rw (← c.self.view_is) at c.requires p c.in-Some.is in
    let k = known 0 ws p c.self.invariant.laid there in
    let size : c.cell_size.result ≡ size_of k.cell = read_size (cell_at (parse 0 ws) p) k.cell c.cell_size.result k.is (rw (← c.self.view_is) at c.cell_size.ensures.size) in
    if_some c.cell_from.result (λ q. (q ≡ p + 1 + c.cell_size.result) × (p + 1 + c.cell_size.result < length c.args.self.now.cells)) (λ q. (r : ℕ) → IsAfter c.args.p r → r < q → cell_at c.args.self.now.cells r ≡ None)
    (λ q f r following less. let e = f.0 in
    let above : p < r = subst (λ o. IsAfter o r) c.in-Some.is following in
    subst (λ (s : Stored). cell_at s.cells r ≡ None) c.self.view_is ((next 0 ws p k.cell c.self.invariant.laid k.is).between r above (omega (arith, e, size, less))))
    c.cell_from.ensures.some

pub returns-in-Some-clause-none : goal.returns-in-Some-clause-none
returns-in-Some-clause-none c =
    let ws = c.self.inside.words.items in
    let p = c.in-Some.p in
    let there : cell_at (parse 0 ws) p ≢ None = rw (← c.self.view_is) at c.requires p c.in-Some.is in
    let k = known 0 ws p c.self.invariant.laid there in
    let size : c.cell_size.result ≡ size_of k.cell = read_size (cell_at (parse 0 ws) p) k.cell c.cell_size.result k.is (rw (← c.self.view_is) at c.cell_size.ensures.size) in
    let long = length_parse 0 ws in
    let cells : length (parse 0 ws) ≡ length c.args.self.now.cells = ap (λ (s : Stored). length s.cells) c.self.view_is in
    if_none c.cell_from.result (length c.args.self.now.cells ≤ p + 1 + c.cell_size.result) ((r : ℕ) → IsAfter c.args.p r → cell_at c.args.self.now.cells r ≡ None)
    (λ past r following.
    let above : p < r = subst (λ o. IsAfter o r) c.in-Some.is following in
    subst (λ (s : Stored). cell_at s.cells r ≡ None) c.self.view_is (none_after ws p k.cell c.self.invariant.laid k.is (omega (arith, past, size, long, cells)) r above))
    c.cell_from.ensures.none
