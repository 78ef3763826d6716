pub mod Treatment
