use Rattle.std.proofs.Common.{◌≡◌, ◌<◌, sym, ap}
use Rattle.cell_code.specs.declared.code.Code.{Code}
use Rattle.cell_code.specs.Plain.{plain_function}
use Rattle.fip_language.specs.Prefix.{IsPlace}
use Rattle.fip_language.specs.Values.{Values}
use Rattle.fip_language.specs.ValueText.{SpellsValues}
use Rattle.value_text.specs.FirstStore.{IsInOrder}
use Rattle.value_text.specs.Loaded.{types_of, needed, IsGiven, IsLoaded}
use Rattle.run_safety.proofs.Headers.{loadable, words_fit}
use Rattle.run_safety.proofs.Stores.{store_is}
use Rattle.fip_host.proofs.Loading.{can_load, moved}
use Rattle.fip_host.proofs.hosted.runs.loaded.Goals as goal

pub returns-in-Ok-clause-few : goal.returns-in-Ok-clause-few
returns-in-Ok-clause-few c =
    let v = c.args.verified.now in
    let g = c.args.function.now in
    let text = c.args.text.now in
    let tables : c.code.result.now.types ≡ v.code.types = ap (λ (d : Code). d.types) c.code.ensures.same in
    let asked = can_load v.code c.requires.function.0 g text c.requires.table c.code.ensures.sound c.requires.function.1 c.requires.short in
    let given = moved (λ tb ps ks. IsGiven tb (types_of ps) ks text) v.code.types c.code.result.now.types g.params c.as_slice-params.result.now g.credits.items c.as_slice-credits.result.now (sym tables) (sym c.as_slice-params.ensures.same) (sym c.as_slice-credits.ensures.value) asked in
    let loads = moved (λ tb ps ks. IsLoaded tb (types_of ps) ks text c.args.loader c.in-Ok.loader c.in-Ok.words.items) c.code.result.now.types v.code.types c.as_slice-params.result.now g.params c.as_slice-credits.result.now g.credits.items tables c.as_slice-params.ensures.same c.as_slice-credits.ensures.value (c.in-Ok.ensures.loads given) in
    words_fit v.code.types (plain_function g) text c.in-Ok.words.items c.args.loader c.in-Ok.loader (loadable v.code c.requires.function.0 g c.code.ensures.sound c.requires.function.1) loads

pub returns-in-Ok-clause-loads : goal.returns-in-Ok-clause-loads
returns-in-Ok-clause-loads c =
    let v = c.args.verified.now in
    let g = c.args.function.now in
    let text = c.args.text.now in
    let tables : c.code.result.now.types ≡ v.code.types = ap (λ (d : Code). d.types) c.code.ensures.same in
    let asked = can_load v.code c.requires.function.0 g text c.requires.table c.code.ensures.sound c.requires.function.1 c.requires.short in
    let given = moved (λ tb ps ks. IsGiven tb (types_of ps) ks text) v.code.types c.code.result.now.types g.params c.as_slice-params.result.now g.credits.items c.as_slice-credits.result.now (sym tables) (sym c.as_slice-params.ensures.same) (sym c.as_slice-credits.ensures.value) asked in
    moved (λ tb ps ks. IsLoaded tb (types_of ps) ks text c.args.loader c.in-Ok.loader c.in-Ok.words.items) c.code.result.now.types v.code.types c.as_slice-params.result.now g.params c.as_slice-credits.result.now g.credits.items tables c.as_slice-params.ensures.same c.as_slice-credits.ensures.value (c.in-Ok.ensures.loads given)

pub returns-in-Ok-clause-order : goal.returns-in-Ok-clause-order
returns-in-Ok-clause-order c = λ unused.
    let v = c.args.verified.now in
    let g = c.args.function.now in
    let text = c.args.text.now in
    let tables : c.code.result.now.types ≡ v.code.types = ap (λ (d : Code). d.types) c.code.ensures.same in
    let asked = can_load v.code c.requires.function.0 g text c.requires.table c.code.ensures.sound c.requires.function.1 c.requires.short in
    let given = moved (λ tb ps ks. IsGiven tb (types_of ps) ks text) v.code.types c.code.result.now.types g.params c.as_slice-params.result.now g.credits.items c.as_slice-credits.result.now (sym tables) (sym c.as_slice-params.ensures.same) (sym c.as_slice-credits.ensures.value) asked in
    moved (λ tb ps ks. IsInOrder tb (types_of ps) ks text c.args.loader c.in-Ok.loader c.in-Ok.words.items) c.code.result.now.types v.code.types c.as_slice-params.result.now g.params c.as_slice-credits.result.now g.credits.items tables c.as_slice-params.ensures.same c.as_slice-credits.ensures.value (c.in-Ok.ensures.order given unused)

pub returns-in-Ok-clause-store : goal.returns-in-Ok-clause-store
returns-in-Ok-clause-store c = store_is c.in-Ok.loader c.left-left.ensures.flags c.left-left.ensures.sized c.left-left.ensures.of_cells

pub returns-in-Err-clause-place : goal.returns-in-Err-clause-place
returns-in-Err-clause-place c = λ at l e.
    let v = c.args.verified.now in
    let g = c.args.function.now in
    let text = c.args.text.now in
    let tables : c.code.result.now.types ≡ v.code.types = ap (λ (d : Code). d.types) c.code.ensures.same in
    let asked = can_load v.code c.requires.function.0 g text c.requires.table c.code.ensures.sound c.requires.function.1 c.requires.short in
    let given = moved (λ tb ps ks. IsGiven tb (types_of ps) ks text) v.code.types c.code.result.now.types g.params c.as_slice-params.result.now g.credits.items c.as_slice-credits.result.now (sym tables) (sym c.as_slice-params.ensures.same) (sym c.as_slice-credits.ensures.value) asked in
    moved (λ tb ps ks. (l ≡ c.args.loader) × IsPlace (SpellsValues tb (types_of ps)) text at) c.code.result.now.types v.code.types c.as_slice-params.result.now g.params c.as_slice-credits.result.now g.credits.items tables c.as_slice-params.ensures.same c.as_slice-credits.ensures.value (c.in-Err.ensures.place given at l e)

pub returns-in-Err-clause-full : goal.returns-in-Err-clause-full
returns-in-Err-clause-full c = λ n room l e.
    let v = c.args.verified.now in
    let g = c.args.function.now in
    let text = c.args.text.now in
    let tables : c.code.result.now.types ≡ v.code.types = ap (λ (d : Code). d.types) c.code.ensures.same in
    let asked = can_load v.code c.requires.function.0 g text c.requires.table c.code.ensures.sound c.requires.function.1 c.requires.short in
    let given = moved (λ tb ps ks. IsGiven tb (types_of ps) ks text) v.code.types c.code.result.now.types g.params c.as_slice-params.result.now g.credits.items c.as_slice-credits.result.now (sym tables) (sym c.as_slice-params.ensures.same) (sym c.as_slice-credits.ensures.value) asked in
    moved (λ tb ps ks. (l ≡ c.args.loader) × (room ≡ c.args.loader.left) × (room < n) × (vs : Values) × SpellsValues tb (types_of ps) text vs × (n ≡ needed c.args.loader ks vs)) c.code.result.now.types v.code.types c.as_slice-params.result.now g.params c.as_slice-credits.result.now g.credits.items tables c.as_slice-params.ensures.same c.as_slice-credits.ensures.value (c.in-Err.ensures.full given n room l e)
