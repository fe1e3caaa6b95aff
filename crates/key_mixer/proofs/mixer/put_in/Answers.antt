use Rattle.std.proofs.Common.{rules, ◌≡◌, ◌<◌, ◌≤◌, ◌∙◌, sym, ap, subst, length, get_or, set, [], ◌∷◌, ◌++◌, arith}
use Rattle.key_mixer.specs.Lists.{lists_of, set_at, FirstFit}
use Rattle.key_mixer.proofs.Fits.{place_first, place_last, get-lists, length-lists, lists-set, lists-append}
use Rattle.key_mixer.proofs.mixer.put_in.Goals as goal

pub returns-then-at-len-clause-placed : goal.returns-then-at-len-clause-placed
returns-then-at-len-clause-placed c =
    let sets = set_at c.args.sets.now in
    let groups = c.args.groups.now.items in
    let at = c.first_group-at.result in
    let long = length-lists groups in
    let lt : at < length groups = search rules in
    let first : FirstFit sets c.args.i (lists_of groups) at = subst (λ xs. FirstFit sets c.args.i (lists_of xs) at)
    c.deref.ensures.value c.first_group-at.ensures.first in
    let new : c.push.new.self.items ≡ get_or (lists_of groups) at [] ++ c.args.i ∷ [] =
    c.in_ok-push.ensures.items
    ∙ ap (λ xs. xs ++ c.args.i ∷ []) (ap (λ v. v.items) c.index_mut.ensures.value
    ∙ sym (get-lists groups at c.index_mut.result.now lt)) in
    lists-set groups at c.push.new.self ∙ ap (set (lists_of groups) at) new ∙ sym (place_first sets c.args.i (lists_of groups) at first (omega arith))

pub returns-clause-placed : goal.returns-clause-placed
returns-clause-placed c =
    let sets = set_at c.args.sets.now in
    let groups = c.args.groups.now.items in
    let at = c.first_group-at.result in
    let long = length-lists groups in
    let le : length groups ≤ at = search rules in
    let first : FirstFit sets c.args.i (lists_of groups) at = subst (λ xs. FirstFit sets c.args.i (lists_of xs) at)
    c.deref.ensures.value c.first_group-at.ensures.first in
    let alone : c.push-2.new.self.items ≡ c.args.i ∷ [] = c.in_ok-push-2.ensures.items ∙ ap (λ xs. xs ++ c.args.i ∷ []) c.new-alone.ensures.items in
    ap lists_of c.in_ok-push-3.ensures.items ∙ lists-append groups (c.push-2.new.self ∷ []) ∙ ap (λ g. lists_of groups ++ g ∷ []) alone
    ∙ sym (place_last sets c.args.i (lists_of groups) at first (omega arith))
