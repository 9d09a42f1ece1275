-- What is true of every line stays so.
use Rattle.std.proofs.Common.{◌≡◌, ℕ, ◌≤◌, ◌-◌, List, ◌++◌, length, Option, Some, None, length-append, sym, subst, arith}
use Rattle.std.proofs.lemmas.List.{length-map}
use Rattle.bay_line.specs.declared.wish.Wish.{Wish}
use Rattle.bay_line.specs.declared.going_in.Seated.{Seated}
use Rattle.bay_line.specs.Wishes.{wish_at}
use Rattle.bay_line.specs.Turns.{pass_all, others}
use Rattle.bay_line.specs.Lines.{Below, IsInOrder, GoIn, wishes_of}
use Rattle.bay_line.proofs.PassedBy.{as_many}
use Rattle.bay_line.proofs.Standing.{rises_others, rises_passed, rises_more, seldom_others, seldom_passed, seldom_more, fewer_others}
use Rattle.bay_line.proofs.Fair.{fair_passed, fair_others, fair_more}

pub in_order_others : (limit most ask : ℕ) (ws : List Wish) → IsInOrder (record { wishes = ws; limit = limit; most = most })
    → IsInOrder (record { wishes = others ask ws; limit = limit; most = most })
in_order_others limit most ask ws x =
    let fewer = fewer_others ask ws in let few = x.few in
    record { rises = rises_others ask ws x.rises; seldom = seldom_others most ask ws x.seldom; fair = fair_others ask ws x.fair; few = omega (arith, fewer, few) }

pub in_order_more : (limit most ask : ℕ) (ws : List Wish) (sets : List ℕ) (classes : ℕ) (d : Option ℕ) → IsInOrder (record { wishes = ws; limit = limit; most = most })
    → Below ask ws → length sets ≤ limit - length ws → IsInOrder (record { wishes = ws ++ wishes_of ask sets classes d; limit = limit; most = most })
in_order_more limit most ask ws sets classes d x below room =
    let few = x.few in
    let sum = length-append ws (wishes_of ask sets classes d) in
    let as_many : length (wishes_of ask sets classes d) ≡ length sets = length-map sets _ in
    record {
      rises = rises_more ask ws sets classes d x.rises below;
      seldom = seldom_more most ask ws sets classes d x.seldom;
      fair = fair_more ask sets classes d ws x.fair;
      few = omega (arith, few, sum, as_many, room);
    }

pub in_order_after : (limit most free needs ask : ℕ) (ws : List Wish) → IsInOrder (record { wishes = ws; limit = limit; most = most })
    → IsInOrder (record { wishes = others ask (pass_all most free needs ws); limit = limit; most = most })
in_order_after limit most free needs ask ws x =
    in_order_others limit most ask (pass_all most free needs ws) (record {
      rises = rises_passed most free needs ws x.rises;
      seldom = seldom_passed most free needs ws x.seldom;
      fair = fair_passed most free needs ws x.fair;
      few = subst (λ n. n ≤ limit) (sym (as_many most free needs ws)) x.few;
    })

pub in_order_goes : (limit most in_use free : ℕ) (old : List Wish) (s : Option Seated) (new : List Wish) → GoIn most in_use free old s new
    → IsInOrder (record { wishes = old; limit = limit; most = most }) → IsInOrder (record { wishes = new; limit = limit; most = most })
in_order_goes limit most in_use free old (Some s) new g x =
    subst (λ (ws : List Wish). IsInOrder (record { wishes = ws; limit = limit; most = most })) (sym g.then)
    (in_order_after limit most free (wish_at old g.place).needs (wish_at old g.place).ask old x)
in_order_goes limit most in_use free old None new g x =
    subst (λ (ws : List Wish). IsInOrder (record { wishes = ws; limit = limit; most = most })) (sym g.1) x
