-- The program headers in turn: the first fault, and the highest end.
use Rattle.std.proofs.Common.{◌≡◌, ◌+◌, ◌^◌, ◌<◌, ◌≤◌, true, None, max, sym, ap, subst, ◌∙◌, arith, below_more}
use Rattle.std.specs.Option.{option_or}
use Rattle.std.proofs.lemmas.Result.{err_from_is_err_and}
use Rattle.image_file.specs.declared.program_header.ProgramHeader.{ProgramHeader}
use Rattle.image_file.specs.Elf.{is_placed, program_header, header_fault, reach_of}
use Rattle.image_file.proofs.Headers.{sound_header, reach_fits, table_fault-more, table_fault-none, table_fault-first, image_len-more, image_len-none}
use Rattle.image_file.proofs.elf.check_table.Goals as goal

pub loop-j-init : goal.loop-j-init
loop-j-init c = record {
  same_ram = c.ram_bytes-ram.ensures.value;
  small = c.ram_bytes-ram.ensures.small;
  none = table_fault-none c.args.file.now c.ram_bytes-ram.result;
  len = sym (image_len-none c.args.file.now);
  fits = omega arith;
  sound = λ i less. absurd (omega arith);
}

pub returns-in_err-header-clause-fault : goal.returns-in_err-header-clause-fault
returns-in_err-header-clause-fault c =
    let p = err_from_is_err_and c.from_residual.result c.from_residual.ensures.1 in
    let file = c.args.file.now in
    let ram = c.ram_bytes-ram.result in
    rw (p.1, p.2, ← c.ram_bytes-ram.ensures.value)
    (table_fault-first file ram c.loop-j.j _ _ (omega (arith, c.loop-j-test.true, c.header_count-j-end.ensures)) c.loop-j.invariant.none c.in_err-header.ensures.fault)

pub reach-requires : goal.reach-requires
reach-requires c placed =
    let file = c.args.file.now in
    let same = c.in_ok-header.ensures.ok in
    let sound = sound_header file c.ram_bytes-ram.result c.loop-j.j c.loop-j.invariant.small (sym c.in_ok-header.ensures.fault) in
    let end = (sound.segment (subst (λ (h : ProgramHeader). is_placed h ≡ true) same placed)).end in
    omega (arith, subst (λ (h : ProgramHeader). h.p_paddr + h.p_memsz < 2 ^ 32) (sym same) end)

pub loop-j-preserved : goal.loop-j-preserved
loop-j-preserved c =
    let file = c.args.file.now in
    let ram = c.ram_bytes-ram.result in
    let j = c.loop-j.j in
    let none : header_fault file ram j ≡ None = sym c.in_ok-header.ensures.fault in
    let reach : c.reach.result ≡ reach_of (program_header file j) = c.reach.ensures ∙ ap reach_of c.in_ok-header.ensures.ok in
    let fits : c.reach.result ≤ ram = subst (λ n. n ≤ ram) (sym reach) (reach_fits file ram j none) in
    record {
      same_ram = c.loop-j.invariant.same_ram;
      small = c.loop-j.invariant.small;
      none = table_fault-more file ram j ∙ ap (λ o. option_or o (header_fault file ram j)) c.loop-j.invariant.none ∙ none;
      len = c.max-len.ensures ∙ ap (λ n. max c.loop-j.len n) reach ∙ ap (λ n. max n (reach_of (program_header file j))) c.loop-j.invariant.len ∙ sym (image_len-more file j);
      fits = omega (arith, c.max-len.ensures, fits, c.loop-j.invariant.fits);
      sound = below_more _ _ c.loop-j.invariant.sound (sound_header file ram j c.loop-j.invariant.small none);
    }
