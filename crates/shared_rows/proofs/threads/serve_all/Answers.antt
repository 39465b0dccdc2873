use Rattle.std.proofs.Common.{◌≡◌, ◌∙◌, ◌<◌, take, drop, length, Some, refl, ap, sym, subst, arith}
use Rattle.std.specs.List.{slice_get}
use Rattle.std.proofs.lemmas.Option.{slice_get_read}
use Rattle.turned_shards.specs.declared.passes.HousePass.{HousePass}
use Rattle.shared_rows.specs.Passes.{Follows}
use Rattle.shared_rows.proofs.PassLemmas.{set-all}
use Rattle.shared_rows.proofs.threads.serve_all.Goals as goal

pub returns : goal.returns
returns g c =
    let items = c.args.passes.now.items in
    let firsts = c.split_at_mut-firsts.result.0.now in
    let others = c.split_at_mut-firsts.result.1.now in
    let count : c.args.passes.now.len ≡ length items = search in
    let front : firsts ≡ take 1 items = c.split_at_mut-firsts.ensures.front ∙ ap (take 1) c.as_mut_slice.ensures.value in
    let back : others ≡ drop 1 items = c.split_at_mut-firsts.ensures.back ∙ ap (drop 1) c.as_mut_slice.ensures.value in
    let here : slice_get firsts 0 ≡ Some c.index-firsts-0.result = slice_get_read firsts _ 0 c.index-firsts-0.result refl (omega (arith, c.split_at_mut-firsts.ensures.front_len)) c.index-firsts-0.is in
    let there : slice_get others 0 ≡ Some c.index-others-0.result =
    slice_get_read others _ 0 c.index-others-0.result refl (omega (arith, c.split_at_mut-firsts.ensures.back_len, c.as_mut_slice.ensures.len, c.len.ensures, c.if-len-lt2.false)) c.index-others-0.is in
    set-all c.args.house.now items _ firsts others c.args.passes.now.len c.index-firsts-0.result c.index-others-0.result c.serve_in_eight.new.pass c.serve_in_eight.new.other count front back here there
    c.requires.passes
    (subst (λ (x : HousePass _). Follows c.args.house.now x c.serve_in_eight.new.pass) (sym c.index-firsts-0.is) c.serve_in_eight.ensures.pass)
    (subst (λ (x : HousePass _). Follows c.args.house.now x c.serve_in_eight.new.other) (sym c.index-others-0.is) c.serve_in_eight.ensures.other)
