pub mod OtherBank
