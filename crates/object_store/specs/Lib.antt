pub mod Stock
pub mod Slots
pub mod Rising
pub mod Lending
pub mod Keys
pub mod SlotLending
