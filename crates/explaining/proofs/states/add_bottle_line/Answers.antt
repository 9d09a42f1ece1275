use Rattle.std.proofs.Common.{◌≡◌, ◌++◌, ◌==◌, ap, ◌∙◌}
use Rattle.std.specs.Int.{bit_at}
use Rattle.legal_steps.specs.declared.edge_state.EdgeState.{EdgeState}
use Rattle.legal_steps.specs.State.{edge, end_of, bottle_marks, bottle_end}
use Rattle.explaining.specs.StateTexts.{bottle_head, places_text, marks_text, bottle_line}
use Rattle.step_texts.proofs.Members.{member}
use Rattle.explaining.proofs.Parts.{three}
use Rattle.explaining.proofs.states.add_bottle_line.Goals as goal

pub returns : goal.returns
unfolding bottle_line
returns g c =
    let w = c.args.world.now in
    let j = c.args.job in
    let e = c.args.edge in
    let k = c.args.bottle in
    let start = c.args.out.now.items in
    let headed = c.add_bottle_head.new.out.items in
    let placed = c.add_places.new.out.items in
    let here : c.of-here.result ≡ end_of w.plan j e = c.of-here.ensures.end ∙ ap (λ p. end_of p j e) c.plan-2.ensures.plan in
    let place : c.bottle_end-place.result ≡ bottle_end (edge w.state e).bottles k =
    c.bottle_end-place.ensures ∙ ap (λ (x : EdgeState). bottle_end x.bottles k) c.edge-state.ensures in
    let token : c.bottle_end-token.result ≡ bottle_end (edge w.state e).bottle_tokens k =
    c.bottle_end-token.ensures ∙ ap (λ (x : EdgeState). bottle_end x.bottle_tokens k) c.edge-state.ensures in
    let mark : c.has.result ≡ (bit_at (bottle_marks w.state j e) k == 1) = member _ _ k c.has.ensures ∙ ap (λ m. bit_at m k == 1) c.bottle_marks.ensures in
    let first : headed ≡ start ++ bottle_head w.plan j e k = c.in_ok-add_bottle_head.ensures ∙ ap (λ p. start ++ bottle_head p j e k) c.plan-3.ensures.plan in
    let second : placed ≡ headed ++ places_text (end_of w.plan j e) (bottle_end (edge w.state e).bottles k) (bottle_end (edge w.state e).bottle_tokens k) =
    c.in_ok-add_places.ensures ∙ ap (λ h. headed ++ places_text h c.bottle_end-place.result c.bottle_end-token.result) here
    ∙ ap (λ x. headed ++ places_text (end_of w.plan j e) x c.bottle_end-token.result) place
    ∙ ap (λ x. headed ++ places_text (end_of w.plan j e) (bottle_end (edge w.state e).bottles k) x) token in
    let third : c.add_mark.new.out.items ≡ placed ++ marks_text (bit_at (bottle_marks w.state j e) k == 1) =
    c.in_ok-add_mark.ensures ∙ ap (λ m. placed ++ marks_text m) mark in
    three start headed placed c.add_mark.new.out.items (bottle_head w.plan j e k) _ _ first second third
