-- `flows::accept::accept` meets its contract: the laws of proofs/Acceptance over what reading, correction and flow check yield.
use Rattle.river.specs.Bytes.{AreBytes}
use Rattle.flows.proofs.Acceptance.{reading_lawful, reading_refused, regular_read, check_refused, check_accepted}
use Rattle.flows.proofs.accept.accept.Goals as goal

pub returns-in_err-reading : goal.returns-in_err-reading
returns-in_err-reading c = reading_refused c.in_err-reading.ensures c.from_residual.ensures.1

pub in_force-effective-requires : goal.in_force-effective-requires
in_force-effective-requires c =
    let bytes : AreBytes c.args.file.now = record { below = λ k. (c.type_inv.file k).fits } in
    (reading_lawful bytes c.in_ok-reading.ensures, c.in_ok-reading.ensures.few)

pub flow_check-requires : goal.flow_check-requires
flow_check-requires c =
    let bytes : AreBytes c.args.file.now = record { below = λ k. (c.type_inv.file k).fits } in
    regular_read c.in_force-effective.result bytes c.in_ok-reading.ensures c.in_force-effective.ensures

pub returns-in_err-flows : goal.returns-in_err-flows
returns-in_err-flows c =
    let bytes : AreBytes c.args.file.now = record { below = λ k. (c.type_inv.file k).fits } in
    check_refused _ bytes c.in_ok-reading.ensures c.in_force-effective.ensures c.in_err-flows.ensures c.from_residual-in_err-flows.ensures.1

pub returns : goal.returns
returns c =
    let bytes : AreBytes c.args.file.now = record { below = λ k. (c.type_inv.file k).fits } in
    check_accepted _ bytes c.in_ok-reading.ensures c.in_force-effective.ensures c.in_ok-flows.ensures
