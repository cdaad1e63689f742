-- What a word says of a flow and of a base. Assumes nothing.
use Rattle.std.proofs.Common.{◌≡◌, ◌+◌, ◌-◌, ◌%◌, ◌^◌, ◌<◌, refl, arith, ne_eqb, Option, Some, None}
use Rattle.quantity.specs.declared.count.ByteCount.{ByteCount}
use Rattle.quantity.specs.declared.count.FlowSequence.{FlowSequence}
use Rattle.meaning.specs.declared.message.Window.{Window}
use Rattle.conduct_rules.specs.Rules.{flow_of, obeys_of}
use Rattle.conduct_rules.specs.Kept.{flow_word, flow_in, base_in}
use Rattle.conduct_rules.proofs.Exactly.{window_alike}

pub flow_alike : (window : Option Window) (last : Option FlowSequence) (bytes : ByteCount) (carried : Option FlowSequence) → obeys_of (flow_in (flow_word window)) last bytes carried ≡ obeys_of (flow_of window) last bytes carried
unfolding flow_in
flow_alike None last bytes carried = refl
flow_alike (Some Window.Empty) last bytes carried = refl
flow_alike (Some (Window.Given window)) last bytes carried =
    let back : 3 + window.0 - 3 ≡ window.0 = omega arith in
    rw (ne_eqb (3 + window.0) 0 (λ e. omega arith), ne_eqb (3 + window.0) 1 (λ e. omega arith), ne_eqb (3 + window.0) 2 (λ e. omega arith), back)
    (window_alike window.0 last bytes carried)

pub base_back : (own : FlowSequence) → own.0 < 2 ^ 32 → base_in (1 + own.0) ≡ Some own
unfolding base_in
base_back own h =
    let back : (1 + own.0 - 1) % 2 ^ 32 ≡ own.0 = omega arith in
    rw (ne_eqb (1 + own.0) 0 (λ e. omega arith), back)
