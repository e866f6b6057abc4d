use Rattle.std.proofs.Common.{◌≡◌, ◌/◌, Bool, false, cond, length, Some, None, sym, ap, ◌∙◌, rules, tests}
use Rattle.std.proofs.lemmas.Iterator.{YieldsList-from_slice}
use Rattle.std.proofs.lemmas.Iterator.Search.{all_from_yields_List}
use Rattle.std.proofs.lemmas.List.{take_at}
use Rattle.std.specs.Char.{is_ascii_hexdigit}
use Rattle.std.specs.List.{list_all}
use Rattle.std.specs.Option.{option_map}
use Rattle.std.specs.Result.{result_ok}
use Rattle.std.specs.Vec.{vec_items, with_items}
use Rattle.hex.specs.Hex.{decode_sized}
use Rattle.console.proofs.Spelling.{wrong_spelled, read, given, kept}
use Rattle.console.proofs.octets.spelled.Goals as goal

pub returns-then-not-all : goal.returns-then-not-all
returns-then-not-all c =
    let ds = c.args.digits.now in
    let all : c.all.result ≡ list_all is_ascii_hexdigit ds = all_from_yields_List is_ascii_hexdigit _ _ c.all.result c.all.ensures.ran (YieldsList-from_slice ds cc) (λ x b q k. search (rules, tests)) in
    let wrong : list_all is_ascii_hexdigit ds ≡ false = sym all ∙ search (rules, tests) in
    sym (wrong_spelled ds wrong)

pub returns : goal.returns
returns c =
    let ds = c.args.digits.now in
    let out = c.decode_to_slice-spelled.new.out in
    let room : length c.as_mut_slice.result.now ≡ length c.args.digits.now / 2 = search rules in
    let laid : vec_items (with_items c.in_ok-octets.octets c.decode_to_slice-spelled.new.out) ≡ c.decode_to_slice-spelled.new.out = take_at c.decode_to_slice-spelled.new.out _ _ (search rules) in
    ap (option_map vec_items) c.then_some.ensures
    ∙ kept vec_items c.is_ok.result _
    ∙ ap (λ os. cond c.is_ok.result (Some os) None) laid
    ∙ ap (λ (b : Bool). cond b (Some out) None) c.is_ok.ensures.value
    ∙ given _ c.decode_to_slice-spelled.result out c.decode_to_slice-spelled.ensures.value
    ∙ ap (λ n. result_ok (decode_sized ds n)) room
    ∙ read ds
