use Rattle.std.proofs.Common.{◌≡◌, ◌≢◌, rules, length, sym, ◌∙◌, arith}
use Rattle.mig_stream.specs.declared.field_fault.FieldFault.TheVariants.{ReadFault}
use Rattle.device_state.specs.Reader.{told_of}
use Rattle.device_state.specs.declared.fault.DeviceReadFault.TheVariants.{Field}
use Rattle.snap_layer.specs.Reading.{ends_in}
use Rattle.snap_layer.proofs.DeviceRead.{found_there, reads_last, refused_end, refused_there}
use Rattle.snap_layer.proofs.last.read_last.Goals as goal

pub returns-in-Err-clause-answer : goal.returns-in-Err-clause-answer
returns-in-Err-clause-answer c =
    let same : c.new-reader.result.medium.now ≡ c.args.layer.items = c.new-reader.ensures.medium ∙ c.new-bytes.ensures in
    let no_read : c.in-Err.fault ≢ Field ReadFault = search rules in
    refused_there c.new-reader.result.medium.now c.args.layer.items c.new-reader.result.at c.args.at c.args.vcpus c.in-Err.fault c.fault_of.result same c.new-reader.ensures.at c.fault_of.ensures no_read c.in-Err.ensures.answer

pub returns-in-Ok-check_end-clause-answer : goal.returns-in-Ok-check_end-clause-answer
returns-in-Ok-check_end-clause-answer c =
    let same : c.new-reader.result.medium.now ≡ c.args.layer.items = c.new-reader.ensures.medium ∙ c.new-bytes.ensures in
    let d = told_of c.in-Ok.devices in
    let end = c.get_devices.new.reader.at in
    let found = found_there c.new-reader.result.medium.now c.args.layer.items c.new-reader.result.at c.args.at end d same c.new-reader.ensures.at c.in-Ok.ensures.answer in
    let long : c.len-len.result ≡ length c.args.layer.items = omega arith in
    let count : c.len-count.result ≡ length c.in-Ok.devices.vcpus.items = omega arith in
    let place : c.at.result ≡ end = c.at.ensures in
    let ends : ends_in c.args.vcpus c.len-len.result c.len-count.result c.at.result ≡ ends_in c.args.vcpus (length c.args.layer.items) (length c.in-Ok.devices.vcpus.items) end =
    λ i. ends_in c.args.vcpus (long i) (count i) (place i) in
    reads_last c.args.layer.items c.args.at end c.args.vcpus d found (sym ends ∙ sym c.in-Ok-check_end.ensures.answer)

pub returns-clause-answer : goal.returns-clause-answer
returns-clause-answer c =
    let same : c.new-reader.result.medium.now ≡ c.args.layer.items = c.new-reader.ensures.medium ∙ c.new-bytes.ensures in
    let d = told_of c.in-Ok.devices in
    let end = c.get_devices.new.reader.at in
    let found = found_there c.new-reader.result.medium.now c.args.layer.items c.new-reader.result.at c.args.at end d same c.new-reader.ensures.at c.in-Ok.ensures.answer in
    let long : c.len-len.result ≡ length c.args.layer.items = omega arith in
    let count : c.len-count.result ≡ length c.in-Ok.devices.vcpus.items = omega arith in
    let place : c.at.result ≡ end = c.at.ensures in
    let ends : ends_in c.args.vcpus c.len-len.result c.len-count.result c.at.result ≡ ends_in c.args.vcpus (length c.args.layer.items) (length c.in-Ok.devices.vcpus.items) end =
    λ i. ends_in c.args.vcpus (long i) (count i) (place i) in
    refused_end c.args.layer.items c.args.at end c.args.vcpus d c.in-Err-check_end.refusal found (sym ends ∙ sym c.in-Err-check_end.ensures.answer)
