-- How the refusals and the findings of the parts make those of the whole.
use Rattle.std.proofs.Common.{◌≡◌, ℕ, ◌+◌, List, [], ◌∷◌, Result, Ok, Err, length, ap, ◌∙◌, sym, slice_index}
use Rattle.ram_block.specs.declared.shape.TheConstants.{MAX_VCPUS}
use Rattle.mig_stream.specs.Checks.{and_then}
use Rattle.mig_stream.specs.Pieces.{same_text}
use Rattle.mig_stream.specs.declared.put.TheConstants.{EOF}
use Rattle.rv64i_step.specs.Vcpu.{VcpuData}
use Rattle.serial_timer.specs.Serial.{SerialData}
use Rattle.device_state.specs.DeviceText.{SerialVersion}
use Rattle.device_state.specs.Reading.{SerialHead, TimerBody, bytes_in, checked, devices_in, footer_in, head_bytes, head_in, head_of, rest_in, section_in, serial_in, tagged_in, timer_in, vcpus_in, version_in}
use Rattle.device_state.specs.declared.fault.DeviceReadFault.{DeviceReadFault}
use Rattle.device_state.specs.declared.fault.DeviceReadFault.TheVariants.{Section}

pub on_ok : {A B : Type 0} (wanted : Result A DeviceReadFault) (next : A → Result B DeviceReadFault) (found : A) → wanted ≡ Ok found → and_then wanted next ≡ next found
on_ok wanted next found is = ap (λ (w : Result _ DeviceReadFault). and_then w next) is

pub on_err : {A B : Type 0} (wanted : Result A DeviceReadFault) (next : A → Result B DeviceReadFault) (fault : DeviceReadFault) → wanted ≡ Err fault → and_then wanted next ≡ Err fault
on_err wanted next fault is = ap (λ (w : Result _ DeviceReadFault). and_then w next) is

-- a text with one byte more, which was compared as it is read
module _ {A : Type 0} (file : List ℕ) (at : ℕ) (text : List ℕ) (read : ℕ → ℕ → Result A DeviceReadFault) where
  pub tagged_cut : (fault : DeviceReadFault) → bytes_in file at (length text + 1) ≡ Err fault → tagged_in file at text read ≡ Err fault
  unfolding tagged_in
  tagged_cut fault cut = rw cut

  module _ (piece wanted : List ℕ) (place end : ℕ) (here : place ≡ at) (is : wanted ≡ text) (whole : bytes_in file at (length text + 1) ≡ Ok (piece, end)) where
    pub tagged_differs : (fault : DeviceReadFault) → checked Section end (same_text place piece wanted) ≡ Err fault → tagged_in file at text read ≡ Err fault
    unfolding tagged_in
    tagged_differs fault differs =
        let other : checked Section end (same_text at piece text) ≡ Err fault =
        ap (λ (p : ℕ). checked Section end (same_text p piece text)) (sym here) ∙ ap (λ (t : List ℕ). checked Section end (same_text place piece t)) (sym is) ∙ differs in
        rw (whole, other)

    same : checked Section end (same_text place piece wanted) ≡ Ok end → checked Section end (same_text at piece text) ≡ Ok end
    same equal = ap (λ (p : ℕ). checked Section end (same_text p piece text)) (sym here) ∙ ap (λ (t : List ℕ). checked Section end (same_text place piece t)) (sym is) ∙ equal

    pub tagged_refused : (fault : DeviceReadFault) → checked Section end (same_text place piece wanted) ≡ Ok end → read (place + length text) (slice_index piece (length text)) ≡ Err fault → tagged_in file at text read ≡ Err fault
    unfolding tagged_in
    tagged_refused fault equal refused =
        let other : read (at + length text) (slice_index piece (length text)) ≡ Err fault = ap (λ (p : ℕ). read (p + length text) (slice_index piece (length text))) (sym here) ∙ refused in
        rw (whole, same equal, other)

    pub tagged_found : (found : A) → checked Section end (same_text place piece wanted) ≡ Ok end → read (place + length text) (slice_index piece (length text)) ≡ Ok found → tagged_in file at text read ≡ Ok (found, end)
    unfolding tagged_in
    tagged_found found equal read_it =
        let other : read (at + length text) (slice_index piece (length text)) ≡ Ok found = ap (λ (p : ℕ). read (p + length text) (slice_index piece (length text))) (sym here) ∙ read_it in
        rw (whole, same equal, other)

-- the rest of a section
module _ {A : Type 0} (file : List ℕ) (at len id : ℕ) (header text : List ℕ) (read : ℕ → List ℕ → Result A DeviceReadFault) (is : text ≡ header) where
  pub header_fails : (fault : DeviceReadFault) → section_in file at text ≡ Err fault → rest_in file at header len read id ≡ Err fault
  unfolding rest_in
  header_fails fault differs =
      let other : section_in file at header ≡ Err fault = ap (section_in file at) (sym is) ∙ differs in
      rw other

  module _ (body_at : ℕ) (header_found : section_in file at text ≡ Ok body_at) where
    there : section_in file at header ≡ Ok body_at
    there = ap (section_in file at) (sym is) ∙ header_found

    pub body_cut : (fault : DeviceReadFault) → bytes_in file body_at len ≡ Err fault → rest_in file at header len read id ≡ Err fault
    unfolding rest_in
    body_cut fault cut = rw (there, cut)

    module _ (body : List ℕ) (foot_at place : ℕ) (whole : bytes_in file body_at len ≡ Ok (body, foot_at)) (here : place ≡ body_at) where
      pub body_refused : (fault : DeviceReadFault) → read place body ≡ Err fault → rest_in file at header len read id ≡ Err fault
      unfolding rest_in
      body_refused fault refused =
          let other : read body_at body ≡ Err fault = ap (λ (p : ℕ). read p body) (sym here) ∙ refused in
          rw (there, whole, other)

      module _ (found : A) (read_it : read place body ≡ Ok found) where
        value : read body_at body ≡ Ok found
        value = ap (λ (p : ℕ). read p body) (sym here) ∙ read_it

        pub footer_fails : (fault : DeviceReadFault) → footer_in file foot_at id ≡ Err fault → rest_in file at header len read id ≡ Err fault
        unfolding rest_in
        footer_fails fault differs = rw (there, whole, value, differs)

        pub rest_found : (end : ℕ) → footer_in file foot_at id ≡ Ok end → rest_in file at header len read id ≡ Ok (found, end)
        unfolding rest_in
        rest_found end footer = rw (there, whole, value, footer)

-- the head of a serial section
module _ (file : List ℕ) (at len place : ℕ) (version : SerialVersion) (is : len ≡ head_bytes version) (here : place ≡ at) where
  pub head_cut : (fault : DeviceReadFault) → bytes_in file at len ≡ Err fault → head_in file at version ≡ Err fault
  unfolding head_in
  head_cut fault cut =
      let other : bytes_in file at (head_bytes version) ≡ Err fault = ap (bytes_in file at) (sym is) ∙ cut in
      rw other

  module _ (front : List ℕ) (end : ℕ) (whole : bytes_in file at len ≡ Ok (front, end)) where
    all : bytes_in file at (head_bytes version) ≡ Ok (front, end)
    all = ap (bytes_in file at) (sym is) ∙ whole

    pub head_refused : (fault : DeviceReadFault) → head_of version place front ≡ Err fault → head_in file at version ≡ Err fault
    unfolding head_in
    head_refused fault refused =
        let other : head_of version at front ≡ Err fault = ap (λ (p : ℕ). head_of version p front) (sym here) ∙ refused in
        rw (all, other)

    pub head_found : (head : SerialHead) → head_of version place front ≡ Ok head → head_in file at version ≡ Ok (head, end)
    unfolding head_in
    head_found head found =
        let other : head_of version at front ≡ Ok head = ap (λ (p : ℕ). head_of version p front) (sym here) ∙ found in
        rw (all, other)

-- the whole text
module _ (file : List ℕ) (at : ℕ) where
  pub vcpus_fail : (fault : DeviceReadFault) → vcpus_in file MAX_VCPUS at 0 ≡ Err fault → devices_in file at ≡ Err fault
  unfolding devices_in
  vcpus_fail fault is = rw is

  module _ (vcpus : List VcpuData) (version_at : ℕ) (one : vcpus_in file MAX_VCPUS at 0 ≡ Ok (vcpus, version_at)) where
    pub version_fails : (fault : DeviceReadFault) → version_in file version_at ≡ Err fault → devices_in file at ≡ Err fault
    unfolding devices_in
    version_fails fault is = rw (one, is)

    module _ (version : SerialVersion) (serial_at count : ℕ) (here : count ≡ length vcpus) (two : version_in file version_at ≡ Ok (version, serial_at)) where
      pub serial_fails : (fault : DeviceReadFault) → serial_in file serial_at version count ≡ Err fault → devices_in file at ≡ Err fault
      unfolding devices_in
      serial_fails fault is =
          let other : serial_in file serial_at version (length vcpus) ≡ Err fault = ap (serial_in file serial_at version) (sym here) ∙ is in
          rw (one, two, other)

      module _ (serial : SerialData) (timer_at : ℕ) (found : serial_in file serial_at version count ≡ Ok (serial, timer_at)) where
        three : serial_in file serial_at version (length vcpus) ≡ Ok (serial, timer_at)
        three = ap (serial_in file serial_at version) (sym here) ∙ found

        pub timer_fails : (fault : DeviceReadFault) → timer_in file timer_at count ≡ Err fault → devices_in file at ≡ Err fault
        unfolding devices_in
        timer_fails fault is =
            let other : timer_in file timer_at (length vcpus) ≡ Err fault = ap (timer_in file timer_at) (sym here) ∙ is in
            rw (one, two, three, other)

        module _ (timer : TimerBody) (end_at : ℕ) (told : timer_in file timer_at count ≡ Ok (timer, end_at)) where
          four : timer_in file timer_at (length vcpus) ≡ Ok (timer, end_at)
          four = ap (timer_in file timer_at) (sym here) ∙ told

          pub end_fails : (fault : DeviceReadFault) → section_in file end_at (EOF ∷ []) ≡ Err fault → devices_in file at ≡ Err fault
          unfolding devices_in
          end_fails fault is = rw (one, two, three, four, is)

          pub devices_found : (end : ℕ) → section_in file end_at (EOF ∷ []) ≡ Ok end
              → devices_in file at ≡ Ok (record { devices = record { vcpus = vcpus; serial = serial; cmp = timer.cmp; clock = timer.clock }; version = version; end = end })
          unfolding devices_in
          devices_found end is = rw (one, two, three, four, is)
